-- A word that is put into a plane's open partition.
use Rattle.std.proofs.Common.{◌≡◌, ℕ, ◌+◌, ◌-◌, ◌*◌, ◌<◌, ◌≤◌, false, cond, ◌⊎◌, List, [], ◌∷◌, ◌++◌, length, get_or, take, drop, set, Some, Option, ap, ◌∙◌, inl, inr, arith, length-drop, length-take}
use lib.Seq.{take-set-lt}
use Rattle.std.proofs.lemmas.Nat.{mul-add-lt, mul-le}
use Rattle.std.proofs.lemmas.List.{drop-set-add, drop-set-lt, get_or-set_other, get_or-set_same, length-set, take_more_set, take-set-le}
use Rattle.std.proofs.lemmas.Bool.{cases_lt}
use Rattle.std.proofs.lemmas.Bool.Decides.{nat_tests}
use Rattle.port.specs.Meaning.{Meaning, after_put, takes}
use Rattle.port.specs.Partitions.{Apart, list_of, partition_of, room_of, size_of}

abbrev means : List ℕ → List ℕ → Option ℕ → Meaning
means cells used o = record { partitions = 8; words = list_of cells used; opened = o; room = room_of cells used o; spent = false }

-- a partition has its size
module _ (cells : List ℕ) (s : ℕ) (h : s < 8) where
  length-partition_of : length (partition_of cells s) ≡ size_of cells
  length-partition_of = simp (length-take, length-drop) (omega (arith, mul-le s (size_of cells) 7 (size_of cells) (omega arith) (omega arith)))

-- word w stored at index n of partition s
module _ (cells : List ℕ) (s n w : ℕ) (h : s < 8) (l : n < size_of cells) where
  abbrev after : List ℕ
  after = set cells (s * size_of cells + n) w

  same_size : size_of after ≡ size_of cells
  same_size = simp length-set

  -- partition t of the words after, by the size before
  part : (t : ℕ) → partition_of after t ≡ take (size_of cells) (drop (t * size_of cells) after)
  part t = rw same_size

  here : partition_of after s ≡ set (partition_of cells s) n w
  here = part s ∙ ap (take (size_of cells)) (drop-set-add (s * size_of cells) cells n w) ∙ take-set-lt (size_of cells) (drop (s * size_of cells) cells) n w l

  elsewhere : (t : ℕ) → (t ≡ s → ⊥) → partition_of after t ≡ partition_of cells t
  elsewhere t apart = part t ∙ by (cases_lt s t)
    where
      by : (s < t) ⊎ (t ≤ s) → take (size_of cells) (drop (t * size_of cells) after) ≡ partition_of cells t
      by (inl below) = ap (take (size_of cells)) (drop-set-lt (t * size_of cells) cells (s * size_of cells + n) w (omega (arith, mul-le (s + 1) (size_of cells) t (size_of cells) (omega arith) (omega arith))))
      by (inr above) =
          let far : t * size_of cells + size_of cells ≤ s * size_of cells + n = omega (arith, mul-le (t + 1) (size_of cells) s (size_of cells) (omega arith) (omega arith)) in
          let split : s * size_of cells + n ≡ t * size_of cells + (s * size_of cells + n - t * size_of cells) = omega arith in
          ap (λ (k : ℕ). take (size_of cells) (drop (t * size_of cells) (set cells k w))) split ∙
          ap (take (size_of cells)) (drop-set-add (t * size_of cells) cells (s * size_of cells + n - t * size_of cells) w) ∙
          take-set-le (size_of cells) (drop (t * size_of cells) cells) (s * size_of cells + n - t * size_of cells) w (omega arith)

  longer : take (n + 1) (partition_of after s) ≡ take n (partition_of cells s) ++ w ∷ []
  longer = ap (take (n + 1)) here ∙ take_more_set (partition_of cells s) n w (omega (arith, length-partition_of cells s h))

  pub apart : (o : Option ℕ) → o ≡ Some s → Apart o cells (set cells (s * size_of cells + n) w)
  apart o is = record {
    others = λ t other. elsewhere t (λ e. other (rw e is));
    behind = drop-set-lt (8 * size_of cells) cells (s * size_of cells + n) w (omega (arith, mul-add-lt s (size_of cells) n 8 h l));
  }

-- what a plane of these words means after one more in the open partition s
pub stored : (cells used : List ℕ) (s w : ℕ) → s < 8 → s < length used → get_or used s 0 < size_of cells → (o : Option ℕ) → o ≡ Some s →
    means (set cells (s * size_of cells + get_or used s 0) w) (set used s (get_or used s 0 + 1)) o ≡ cond (takes (means cells used o)) (after_put w false (means cells used o)) (means cells used o)
stored cells used s w h within l o is =
    let n = get_or used s 0 in
    let size = same_size cells s n w h l in
    let here = longer cells s n w h l in
    let others = elsewhere cells s n w h l in
    let counted = get_or-set_same used s (n + 1) 0 within in
    let uncounted = λ (t : ℕ). get_or-set_other used s t (n + 1) 0 in
    grind (arith, nat_tests, size, here, others, counted, uncounted)
