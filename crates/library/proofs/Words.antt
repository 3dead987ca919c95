-- The words of cells that are read one after another.
use Rattle.std.proofs.Common.{◌≡◌, ℕ, ◌+◌, ◌<◌, List, [], ◌∷◌, ◌++◌, length, get_or, drop, Ok, Err, Result, sym, refl, ap, ◌∙◌, append_assoc}
use Rattle.std.proofs.lemmas.List.{at_drop_more}
use Rattle.library.specs.declared.fault.Fault.{Fault}
use Rattle.library.specs.Fault.{Cell}
use Rattle.library.specs.Check.{after_word, all_words}

-- more words behind those read
abbrev pub followed_by : List ℕ → Result (List ℕ) Fault → Result (List ℕ) Fault
followed_by ws (Ok vs) = Ok (ws ++ vs)
followed_by ws (Err f) = Err f

one_more : (ws : List ℕ) (w : ℕ) (x : Result (List ℕ) Fault) → followed_by ws (after_word w x) ≡ followed_by (ws ++ w ∷ []) x
one_more ws w (Ok vs) = ap (λ (xs : List ℕ). Ok xs) (sym (append_assoc ws (w ∷ []) vs))
one_more ws w (Err f) = refl

module _ (ws : List ℕ) (cs : List Cell) (i : ℕ) (c : Cell) (h : i < length cs) (here : get_or cs i c ≡ c) where
  step : all_words (drop i cs) ≡ all_words (c ∷ drop (i + 1) cs)
  step = at_drop_more all_words cs i c h ∙ ap (λ (x : Cell). all_words (x ∷ drop (i + 1) cs)) here

  pub read_word : (w : ℕ) → c ≡ Ok w → followed_by ws (all_words (drop i cs)) ≡ followed_by (ws ++ w ∷ []) (all_words (drop (i + 1) cs))
  read_word w e = ap (followed_by ws) (step ∙ ap (λ (x : Cell). all_words (x ∷ drop (i + 1) cs)) e) ∙ one_more ws w (all_words (drop (i + 1) cs))
