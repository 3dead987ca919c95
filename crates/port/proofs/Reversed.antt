-- The bits of a word that is reversed, and whose bytes are swapped. Assumes nothing.
use Rattle.std.proofs.Common.{◌≡◌, ℕ, zero, suc, ◌+◌, ◌-◌, ◌*◌, ◌/◌, ◌%◌, ◌^◌, ◌<◌, ◌≤◌, sym, ap, ◌∙◌, inl, inr, arith, shr-shr}
use Rattle.std.proofs.lemmas.Bool.{cases_lt}
use Rattle.std.proofs.lemmas.Nat.Bits.{bit_at-suc, bit_at_cat_high, bit_at_cat_low, bit_at_lowest}
use Rattle.std.specs.Int.{bit_at, reverse_bits_onto, swap_bytes, w32}

-- behind the k bits of n are the bits of a
above : (k n a i : ℕ) → bit_at (reverse_bits_onto k n a) (i + k) ≡ bit_at a i
unfolding reverse_bits_onto
above zero n a i = ap (bit_at a) (omega arith)
above (suc k) n a i =
    let one : i + suc k ≡ suc i + k = omega arith in
    let half : (a * 2 + n % 2) / 2 ≡ a = omega arith in
    ap (bit_at (reverse_bits_onto k (n / 2) (a * 2 + n % 2))) one ∙ above k (n / 2) (a * 2 + n % 2) (suc i) ∙ bit_at-suc (a * 2 + n % 2) i ∙ ap (λ (x : ℕ). bit_at x i) half

-- the first k bits are those of n in reverse
pub reversed : (k n a i : ℕ) → i < k → bit_at (reverse_bits_onto k n a) i ≡ bit_at n (k - suc i)
unfolding reverse_bits_onto
reversed zero n a i h = absurd (omega arith)
reversed (suc k) n a i h =
    elim (cases_lt i k) [
      | inl l ↦
          let one : suc k - suc i ≡ suc (k - suc i) = omega arith in
          reversed k (n / 2) (a * 2 + n % 2) i l ∙ sym (bit_at-suc n (k - suc i)) ∙ ap (bit_at n) (sym one)
      | inr l ↦
          let last : i ≡ 0 + k = omega arith in
          let low : (a * 2 + n % 2) % 2 ≡ n % 2 = omega arith in
          let first : suc k - suc i ≡ 0 = omega arith in
          ap (bit_at (reverse_bits_onto k (n / 2) (a * 2 + n % 2))) last ∙ above k (n / 2) (a * 2 + n % 2) 0 ∙ bit_at_lowest (a * 2 + n % 2) ∙ low ∙ sym (bit_at_lowest n) ∙ ap (bit_at n) (sym first)
    ]

-- bit i of the lowest byte, and of the byte that begins at bit j
in_byte : (n i : ℕ) → i < 8 → bit_at (n % 256) i ≡ bit_at n i
in_byte n i h =
    let whole : n / 256 * 256 + n % 256 ≡ n = omega arith in
    sym (bit_at_cat_low (n / 256) 8 (n % 256) i h) ∙ ap (λ (x : ℕ). bit_at x i) whole

bit_at-byte : (n j i : ℕ) → i < 8 → bit_at (n / 2 ^ j % 256) i ≡ bit_at n (j + i)
bit_at-byte n j i h = in_byte (n / 2 ^ j) i h ∙ ap (λ (x : ℕ). x % 2) (shr-shr n j i)

-- a byte below others
in_low : (a b i : ℕ) → i < 8 → bit_at (a * 256 + b) i ≡ bit_at b i
in_low a b i h = bit_at_cat_low a 8 b i h

in_high : (a b i : ℕ) → b < 256 → 8 ≤ i → bit_at (a * 256 + b) i ≡ bit_at a (i - 8)
in_high a b i l h = bit_at_cat_high a 8 b i l h

pub swapped : (n i : ℕ) → i < 32 → bit_at (swap_bytes w32 n) i ≡ bit_at n ((3 - i / 8) * 8 + i % 8)
swapped n i h =
    let b0 = n % 256 in
    let b1 = n / 256 % 256 in
    let b2 = n / 65536 % 256 in
    let b3 = n / 16777216 % 256 in
    let all : b0 * 16777216 + b1 * 65536 + b2 * 256 + b3 ≡ ((b0 * 256 + b1) * 256 + b2) * 256 + b3 = omega arith in
    ap (λ (x : ℕ). bit_at x i) all ∙
    elim (cases_lt i 8) [
      | inl l ↦ in_low _ b3 i l ∙ bit_at-byte n 24 i l ∙ ap (bit_at n) (omega arith)
      | inr l ↦
          in_high _ b3 i (omega arith) l ∙
          elim (cases_lt i 16) [
            | inl m ↦ in_low _ b2 (i - 8) (omega arith) ∙ bit_at-byte n 16 (i - 8) (omega arith) ∙ ap (bit_at n) (omega arith)
            | inr m ↦
                in_high _ b2 (i - 8) (omega arith) (omega arith) ∙
                elim (cases_lt i 24) [
                  | inl o ↦ in_low _ b1 (i - 8 - 8) (omega arith) ∙ bit_at-byte n 8 (i - 8 - 8) (omega arith) ∙ ap (bit_at n) (omega arith)
                  | inr o ↦ in_high _ b1 (i - 8 - 8) (omega arith) (omega arith) ∙ in_byte n (i - 8 - 8 - 8) (omega arith) ∙ ap (bit_at n) (omega arith)
                ]
          ]
    ]
