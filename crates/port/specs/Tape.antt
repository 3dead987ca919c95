-- What a tape means, and what is written on it. Assumes nothing.
use Rattle.std.specs.Prelude.{◌≡◌, ℕ, ◌-◌, ◌≤◌, Bool, if◌then◌else◌, List, length, take, is_some, ◌==◌, slice_set}
use Rattle.port.specs.declared.tape.Tape.{Tape}
use Rattle.port.specs.declared.tape_record.Content.{Content}
use Rattle.port.specs.declared.tape_record.Record.{Record}
use Rattle.port.specs.Meaning.{Meaning}
use Rattle.port.specs.Records.{words_of}

-- the records in use
abbrev pub used_records : Tape → List Record
used_records t = take t.used t.records.now

-- how many records are free
abbrev pub free_of : Tape → ℕ
free_of t = length t.records.now - t.used

-- eight partitions, whose lists are their words since their last mark; the room is the free records, and with none it is spent
abbrev pub tape_means : Tape → Meaning
tape_means t = record { partitions = 8; words = λ s. words_of s (used_records t); opened = t.opened; room = (if is_some t.opened then free_of t else 0); spent = (free_of t == 0) }

-- the caller's records after an accepted call, which wrote one in the next free place, or a refused one
abbrev pub with_record : Bool → Tape → ℕ → Content → List Record
with_record accepted t s c = if accepted then slice_set t.records.now t.used (record { partition = s; content = c }) else t.records.now

-- A record once written is never changed.
pub record Grows (before after : Tape) : Type 0 where
  pub more : before.used ≤ after.used
  pub kept : take before.used after.records.now ≡ used_records before
