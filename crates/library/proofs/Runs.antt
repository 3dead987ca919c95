-- Which run of a run table covers a place.
use Rattle.std.proofs.Common.{◌≡◌, ℕ, zero, suc, ◌+◌, ◌-◌, ◌<◌, ◌≤◌, min, List, ◌++◌, length, get_or, take, drop, replicate, Some, sym, refl, ap, ◌∙◌, ⊎_elim, arith}
use native.Mathlib.Nat.{sub-zero}
use Rattle.std.proofs.lemmas.List.{at_drop_more, take_all}
use Rattle.std.proofs.lemmas.Bool.{cases_lt}
use Rattle.std.specs.List.{slice_get}
use Rattle.library.specs.declared.run_table.Run.{Run}
use Rattle.library.specs.RunTable.{run_places}

within : (n : ℕ) (r : Run) (rs : List Run) (k : ℕ) → k < n → slice_get (replicate n r ++ rs) k ≡ Some r
within zero r rs k h = absurd (omega arith)
within (suc n) r rs zero h = refl
within (suc n) r rs (suc k) h = within n r rs k (omega arith)

past : (n : ℕ) (r : Run) (rs : List Run) (k : ℕ) → n ≤ k → slice_get (replicate n r ++ rs) k ≡ slice_get rs (k - n)
past zero r rs k h = ap (slice_get rs) (sym (sub-zero k))
past (suc n) r rs zero h = absurd (omega arith)
past (suc n) r rs (suc k) h = past n r rs k (omega arith) ∙ ap (slice_get rs) (omega arith)

-- place p, where the runs before the i-th end at s
module _ (rs : List Run) (i s p : ℕ) (d : Run) (h : i < length rs) where
  step : slice_get (run_places (drop i rs)) (p - s) ≡ slice_get (replicate (get_or rs i d).count (get_or rs i d) ++ run_places (drop (i + 1) rs)) (p - s)
  step = at_drop_more (λ (xs : List Run). slice_get (run_places xs) (p - s)) rs i d h

  pub covered : s ≤ p → p < s + (get_or rs i d).count → Some (get_or rs i d) ≡ slice_get (run_places (drop i rs)) (p - s)
  covered from to = sym (step ∙ within (get_or rs i d).count (get_or rs i d) (run_places (drop (i + 1) rs)) (p - s) (omega arith))

  pub passed : (n : ℕ) → n ≡ (get_or rs i d).count → s + n ≤ p → slice_get (run_places (drop (i + 1) rs)) (p - (s + n)) ≡ slice_get (run_places (drop i rs)) (p - s)
  passed n e to =
      ap (slice_get (run_places (drop (i + 1) rs))) (omega arith) ∙
      sym (step ∙ past (get_or rs i d).count (get_or rs i d) (run_places (drop (i + 1) rs)) (p - s) (omega arith))

-- the first sixteen, as the loop takes them
pub counted : (rs : List Run) (n : ℕ) → n ≡ min (length rs) 16 → take n rs ≡ take 16 rs
counted rs n e =
    ⊎_elim
    (λ few. ap (λ (k : ℕ). take k rs) (let k : n ≡ length rs = omega arith in k) ∙ take_all (length rs) rs (omega arith) ∙ sym (take_all 16 rs (omega arith)))
    (λ many. ap (λ (k : ℕ). take k rs) (let k : n ≡ 16 = omega arith in k))
    (cases_lt (length rs) 16)
