-- A number that is made of bits. Assumes nothing.
use Rattle.std.proofs.Common.{◌≡◌, ℕ, zero, suc, ◌+◌, ◌*◌, ◌^◌, ◌<◌, sum_by, ap, ◌∙◌, add_comm, pow-suc, zero-add, add-one, arith, lit<, inl, inr, map-id}
use Rattle.std.proofs.lemmas.Bool.{cases_lt}
use Rattle.std.proofs.lemmas.List.FromFn.{sum_by-map-range_with_len_more}
use Rattle.std.proofs.lemmas.Nat.{mul-le}
use Rattle.std.proofs.lemmas.Nat.Bits.{bit_at_cat_high, bit_at_cat_low, bit_at_lowest}
use Rattle.std.specs.Int.{bit_at}
use Rattle.std.specs.List.{range_with_len}

module _ (b : ℕ → ℕ) (small : (i : ℕ) → b i < 2) where
  -- the number with the bits b 0 to b (n - 1)
  abbrev number : ℕ → ℕ
  number n = sum_by (λ i. b i * 2 ^ i) (range_with_len 0 n)

  number-suc : (n : ℕ) → number (suc n) ≡ b n * 2 ^ n + number n
  number-suc n =
      (rw add-one at (simp map-id at (sum_by-map-range_with_len_more (λ i. b i * 2 ^ i) (λ i. i) 0 n n (zero-add n)))) ∙ add_comm (number n) (b n * 2 ^ n)

  pub number_lt : (n : ℕ) → sum_by (λ i. b i * 2 ^ i) (range_with_len 0 n) < 2 ^ n
  number_lt zero = lit< tt
  number_lt (suc n) = rw (number-suc, pow-suc) (omega (arith, number_lt n, mul-le (b n) (2 ^ n) 1 (2 ^ n) (omega (arith, small n)) (omega arith)))

  pub bit_at-number : (n i : ℕ) → i < n → bit_at (sum_by (λ i. b i * 2 ^ i) (range_with_len 0 n)) i ≡ b i
  bit_at-number zero i h = absurd (omega arith)
  bit_at-number (suc n) i h =
      ap (λ (x : ℕ). bit_at x i) (number-suc n) ∙
      elim (cases_lt i n) [
        | inl l ↦ bit_at_cat_low (b n) n (number n) i l ∙ bit_at-number n i l
        | inr l ↦
            let last : i ≡ n = omega arith in
            rw last (bit_at_cat_high (b n) n (number n) n (number_lt n) (omega arith) ∙ grind (arith, bit_at_lowest (b n), small n))
      ]
