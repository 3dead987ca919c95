-- A tape's lists after one more record.
use Rattle.std.proofs.Common.{◌≡◌, ℕ, true, false, cond, ◌||◌, eqb, List, [], ◌∷◌, ◌++◌, Some, None, refl, arith}
use Rattle.std.proofs.lemmas.Bool.Decides.{nat_tests}
use Rattle.port.specs.declared.tape_record.Content.{Content}
use Rattle.port.specs.declared.tape_record.Content.TheVariants.{Mark, Word}
use Rattle.port.specs.declared.tape_record.Record.{Record}
use Rattle.port.specs.Marks.{between_marks, has_mark, last_mark, to_next_mark}

abbrev pub entry_of : ℕ → Content → Record
entry_of s c = record { partition = s; content = c }

-- after a mark of partition s
module _ (s : ℕ) where
  pub last_is : (rs : List Record) → last_mark (rs ++ entry_of s Mark ∷ []) ≡ Some s
  last_is [] = refl
  last_is (r ∷ rs) = rw (last_is rs)

  next_same : (rs : List Record) → to_next_mark (rs ++ entry_of s Mark ∷ []) ≡ to_next_mark rs
  next_same [] = refl
  next_same (r ∷ rs) = rw (next_same rs)

  marked_more : (t : ℕ) (rs : List Record) → has_mark t (rs ++ entry_of s Mark ∷ []) ≡ (has_mark t rs || eqb s t)
  marked_more t [] = grind arith
  marked_more t (r ∷ rs) = rw (marked_more t rs) (grind arith)

  pub after_mark : (t : ℕ) (rs : List Record) → between_marks t (rs ++ entry_of s Mark ∷ []) ≡ cond (eqb s t) [] (between_marks t rs)
  after_mark t [] = grind arith
  after_mark t (r ∷ rs) = grind (arith, marked_more t rs, next_same rs, after_mark t rs)

-- where nothing is marked
unmarked : (t : ℕ) (rs : List Record) → last_mark rs ≡ None → has_mark t rs ≡ false
unmarked t [] h = refl
unmarked t (r ∷ rs) h = grind (arith, unmarked t rs)

no_list : (t : ℕ) (rs : List Record) → last_mark rs ≡ None → between_marks t rs ≡ []
no_list t [] h = refl
no_list t (r ∷ rs) h = grind (arith, no_list t rs)

-- what is marked last is marked
last_marked : (s : ℕ) (rs : List Record) → last_mark rs ≡ Some s → has_mark s rs ≡ true
last_marked s [] h = cc
last_marked s (r ∷ rs) h = grind (arith, nat_tests, last_marked s rs)

-- after a word w of partition s, which was marked last
module _ (s w : ℕ) where
  pub last_same : (rs : List Record) → last_mark (rs ++ entry_of s (Word w) ∷ []) ≡ last_mark rs
  last_same [] = refl
  last_same (r ∷ rs) = rw (last_same rs)

  marked_same : (t : ℕ) (rs : List Record) → has_mark t (rs ++ entry_of s (Word w) ∷ []) ≡ has_mark t rs
  marked_same t [] = refl
  marked_same t (r ∷ rs) = rw (marked_same t rs)

  -- the word lies behind the next mark
  cut_off : (rs : List Record) → last_mark rs ≡ Some s → to_next_mark (rs ++ entry_of s (Word w) ∷ []) ≡ to_next_mark rs
  cut_off [] h = cc
  cut_off (r ∷ rs) h = grind (arith, cut_off rs)

  -- no mark stands before the word
  reached : (rs : List Record) → last_mark rs ≡ None → to_next_mark (rs ++ entry_of s (Word w) ∷ []) ≡ to_next_mark rs ++ w ∷ []
  reached [] h = refl
  reached (r ∷ rs) h = grind (arith, reached rs)

  pub after_word : (t : ℕ) (rs : List Record) → last_mark rs ≡ Some s → between_marks t (rs ++ entry_of s (Word w) ∷ []) ≡ cond (eqb s t) (between_marks t rs ++ w ∷ []) (between_marks t rs)
  after_word t [] h = cc
  after_word t (r ∷ rs) h = grind (arith, nat_tests, marked_same t rs, last_same rs, cut_off rs, reached rs, unmarked t rs, no_list t rs, no_list t (rs ++ entry_of s (Word w) ∷ []), last_marked s rs, after_word t rs)
