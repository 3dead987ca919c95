-- Which words of a tape are whose. Assumes nothing.
use Rattle.std.specs.Prelude.{◌≡◌, ℕ, Bool, true, false, if◌then◌else◌, not, ◌&&◌, ◌||◌, List, [], ◌∷◌, Some, None, Option, ◌==◌}
use Rattle.std.specs.Option.{option_or}
use Rattle.port.specs.declared.tape_record.Content.{Content}
use Rattle.port.specs.declared.tape_record.Content.TheVariants.{Mark, Word}
use Rattle.port.specs.declared.tape_record.Record.{Record}
use Rattle.port.specs.Records.{words_of}

-- whether a record's content is a mark
abbrev pub is_mark : Content → Bool
is_mark Mark = true
is_mark (Word w) = false

-- whether a record marks partition s
abbrev pub is_mark_of : ℕ → Record → Bool
is_mark_of s r = is_mark r.content && r.partition == s

-- whether some record marks partition s
abbrev pub has_mark : ℕ → List Record → Bool
has_mark s [] = false
has_mark s (r ∷ rs) = is_mark_of s r || has_mark s rs

-- a word before others, or nothing from a mark on
abbrev pub word_then : Content → List ℕ → List ℕ
word_then Mark ws = []
word_then (Word w) ws = w ∷ ws

-- the words up to the next mark
abbrev pub to_next_mark : List Record → List ℕ
to_next_mark [] = []
to_next_mark (r ∷ rs) = word_then r.content (to_next_mark rs)

-- the words between the last mark of partition s and the next mark
abbrev pub between_marks : ℕ → List Record → List ℕ
between_marks s [] = []
between_marks s (r ∷ rs) = if is_mark_of s r && not (has_mark s rs) then to_next_mark rs else between_marks s rs

-- the partition that a record marks
abbrev pub mark_of : ℕ → Content → Option ℕ
mark_of s Mark = Some s
mark_of s (Word w) = None

-- the partition that was marked last
abbrev pub last_mark : List Record → Option ℕ
last_mark [] = None
last_mark (r ∷ rs) = option_or (last_mark rs) (mark_of r.partition r.content)

-- A partition's list is the words between its last mark and the next mark, and the open partition is the one that was marked last.
pub record BetweenMarks (opened : Option ℕ) (rs : List Record) : Type 0 where
  pub lists : (s : ℕ) → words_of s rs ≡ between_marks s rs
  pub last : (s : ℕ) → opened ≡ Some s → last_mark rs ≡ Some s
