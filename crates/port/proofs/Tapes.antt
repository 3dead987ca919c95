-- One record more on a tape.
use Rattle.std.proofs.Common.{◌≡◌, ℕ, List, [], ◌∷◌, ◌++◌, Some, Option, ap, ◌∙◌, arith}
use Rattle.std.proofs.lemmas.List.Sums.{fold_push}
use Rattle.port.specs.declared.tape_record.Content.TheVariants.{Mark, Word}
use Rattle.port.specs.declared.tape_record.Record.{Record}
use Rattle.port.specs.Marks.{BetweenMarks}
use Rattle.port.specs.Records.{after_record, words_of}
use Rattle.port.proofs.Marked.{after_mark, after_word, entry_of, last_is, last_same}

pub words_of-push : (s : ℕ) (rs : List Record) (r : Record) → words_of s (rs ++ r ∷ []) ≡ after_record s (words_of s rs) r.partition r.content
words_of-push s rs r = fold_push (λ (ws : List ℕ) (x : Record). after_record s ws x.partition x.content) [] rs r

-- a mark of partition s, which may be open then
pub mark_between : (s : ℕ) (rs : List Record) (was o : Option ℕ) → BetweenMarks was rs → ((t : ℕ) → o ≡ Some t → s ≡ t) → BetweenMarks o (rs ++ entry_of s Mark ∷ [])
mark_between s rs was o before same = record {
  lists = λ t. grind (arith, words_of-push t rs (entry_of s Mark), after_mark s t rs, before.lists t);
  last = λ t is. last_is s rs ∙ ap (λ (x : ℕ). Some x) (same t is);
}

-- a word of the open partition s
pub word_between : (s w : ℕ) (rs : List Record) (o : Option ℕ) → BetweenMarks o rs → o ≡ Some s → BetweenMarks o (rs ++ entry_of s (Word w) ∷ [])
word_between s w rs o before is = record {
  lists = λ t. grind (arith, words_of-push t rs (entry_of s (Word w)), after_word s w t rs (before.last s is), before.lists t);
  last = λ t same. last_same s w rs ∙ before.last t same;
}
