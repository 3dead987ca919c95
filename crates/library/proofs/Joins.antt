-- A list that is joined together from pieces.
use Rattle.std.proofs.Common.{◌≡◌, ℕ, zero, suc, ◌+◌, ◌-◌, ◌*◌, ◌<◌, List, [], ◌∷◌, ◌++◌, length, get_or, take, sym, ap, ◌∙◌, suc-mul, zero-mul, arith, length-append}
use Rattle.std.proofs.lemmas.List.{get_or_append_left, get_or-append_right, flat_map_more, take_more}
use Rattle.std.specs.List.{flat_map}

module _ {X A : Type 0} (f : X → List A) where
  pub one_more : (xs : List X) (i : ℕ) (d : X) → i < length xs → flat_map f (take i xs) ++ f (get_or xs i d) ≡ flat_map f (take (i + 1) xs)
  one_more xs i d h = flat_map_more f [] (take i xs) (get_or xs i d) ∙ ap (flat_map f) (sym (take_more xs i d h))

  -- pieces of n elements each
  module _ (n : ℕ) (e : X) where
    abbrev pub Even : List X → Type 0
    Even xs = (i : ℕ) → i < length xs → length (f (get_or xs i e)) ≡ n

    pub length-even : (xs : List X) → Even xs → length (flat_map f xs) ≡ length xs * n
    length-even [] even = sym (zero-mul n)
    length-even (x ∷ xs) even =
        length-append (f x) (flat_map f xs) ∙ omega (arith, even 0 (omega arith), length-even xs (λ i h. even (suc i) (omega arith)), suc-mul (length xs) n)

    pub get_or-even : (xs : List X) (p k : ℕ) (d : A) → Even xs → p < length xs → k < n → get_or (flat_map f xs) (p * n + k) d ≡ get_or (f (get_or xs p e)) k d
    get_or-even [] p k d even h l = absurd (omega arith)
    get_or-even (x ∷ xs) zero k d even h l =
        ap (λ (i : ℕ). get_or (flat_map f (x ∷ xs)) i d) (omega (arith, zero-mul n)) ∙ get_or_append_left (f x) (flat_map f xs) d k (omega (arith, even 0 (omega arith)))
    get_or-even (x ∷ xs) (suc p) k d even h l =
        get_or-append_right (f x) (flat_map f xs) n (suc p * n + k) d (even 0 (omega arith)) (omega (arith, suc-mul p n)) ∙
        ap (λ (i : ℕ). get_or (flat_map f xs) i d) (let k : suc p * n + k - n ≡ p * n + k = omega (arith, suc-mul p n) in k) ∙
        get_or-even xs p k d (λ i h. even (suc i) (omega arith)) (omega arith) l
