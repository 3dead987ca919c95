-- The words of one partition among the records of a tape. Assumes nothing.
use Rattle.std.specs.Prelude.{ℕ, if◌then◌else◌, List, [], ◌∷◌, ◌++◌, fold, ◌==◌, Some, None, Option}
use Rattle.port.specs.declared.tape_record.Content.{Content}
use Rattle.port.specs.declared.tape_record.Content.TheVariants.{Mark, Word}
use Rattle.port.specs.declared.tape_record.Record.{Record}

-- the list of partition s after a record of partition p: a mark empties it, a word ends it
abbrev pub after_record : ℕ → List ℕ → ℕ → Content → List ℕ
after_record s ws p Mark = if p == s then [] else ws
after_record s ws p (Word w) = if p == s then ws ++ w ∷ [] else ws

-- the words of partition s since its last mark
abbrev pub words_of : ℕ → List Record → List ℕ
words_of s rs = fold (λ ws r. after_record s ws r.partition r.content) [] rs

-- the word in a record's content, which a mark has not
abbrev pub word_in : Content → Option ℕ
word_in Mark = None
word_in (Word w) = Some w

-- the word that a record adds to the list of partition s, if it does
abbrev pub word_for : ℕ → Record → Option ℕ
word_for s r = if r.partition == s then word_in r.content else None
