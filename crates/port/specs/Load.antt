-- What putting many words makes of a port. Assumes nothing.
use Rattle.std.specs.Prelude.{◌≡◌, ℕ, ◌-◌, ◌≤◌, Bool, if◌then◌else◌, List, ◌++◌, length, take, is_some, Some, None, Option, ◌==◌}
use Rattle.port.specs.Meaning.{Meaning}

-- how many words could be put: the room of the open partition
abbrev pub space_of : Meaning → ℕ
space_of p = if is_some p.opened then p.room else 0

-- the lists with the words ws at the end of the open one
abbrev pub with_words : Option ℕ → List ℕ → (ℕ → List ℕ) → ℕ → List ℕ
with_words None ws words t = words t
with_words (Some s) ws words t = if t == s then words t ++ ws else words t

-- the words ws were taken, one after another
abbrev pub after_puts : List ℕ → Bool → Meaning → Meaning
after_puts ws spent p = record { partitions = p.partitions; words = with_words p.opened ws p.words; opened = p.opened; room = p.room - length ws; spent = spent }

-- Partition s holds the first n of the words; no other list has changed, and none is open.
pub record Loaded (s : ℕ) (words : List ℕ) (n : ℕ) (p q : Meaning) : Type 0 where
  pub few : n ≤ length words
  pub after : q ≡ record { partitions = p.partitions; words = λ t. (if t == s then take n words else p.words t); opened = None; room = 0; spent = q.spent }
