-- Words put together from fields.
use Rattle.std.proofs.Common.{◌≡◌, ℕ, ◌+◌, ◌*◌, ◌%◌, ◌<◌, arith, ap, ◌∙◌, bit_or}
use Rattle.std.proofs.lemmas.Nat.{or_shifted}

-- a half-word, bit 8, and a number in the low byte
pub full_word : (m n : ℕ) → m < 65536 → n < 256 → bit_or (bit_or (m * 65536 % 4294967296) 256) n ≡ m * 65536 + 256 + n
full_word m n hm hn =
    let small : m * 65536 % 4294967296 ≡ m * 65536 = omega arith in
    let upper : m * 65536 + 256 ≡ (m * 256 + 1) * 256 = omega arith in
    ap (λ (x : ℕ). bit_or (bit_or x 256) n) small ∙ ap (λ (x : ℕ). bit_or x n) (or_shifted m 16 256 (omega arith) ∙ upper) ∙ or_shifted (m * 256 + 1) 8 n hn ∙ omega arith

-- STATUS in shutdown: a module, the flag, an error, a level
pub shutdown_word : (m e l : ℕ) → m < 256 → e < 4 → l < 2 → bit_or (bit_or (bit_or (m * 256 % 4294967296) 128) (e * 8 % 4294967296)) l ≡ m * 256 + 128 + e * 8 + l
shutdown_word m e l hm he hl =
    let whole : m * 256 % 4294967296 ≡ m * 256 = omega arith in
    let high : e * 8 % 4294967296 ≡ e * 8 = omega arith in
    let flag : bit_or (m * 256) 128 ≡ m * 256 + 128 = or_shifted m 8 128 (omega arith) in
    let upper : m * 256 + 128 ≡ (m * 2 + 1) * 128 = omega arith in
    let middle : bit_or ((m * 2 + 1) * 128) (e * 8) ≡ (m * 2 + 1) * 128 + e * 8 = or_shifted (m * 2 + 1) 7 (e * 8) (omega arith) in
    let lower : (m * 2 + 1) * 128 + e * 8 ≡ ((m * 2 + 1) * 16 + e) * 8 = omega arith in
    let last : bit_or (((m * 2 + 1) * 16 + e) * 8) l ≡ ((m * 2 + 1) * 16 + e) * 8 + l = or_shifted ((m * 2 + 1) * 16 + e) 3 l (omega arith) in
    ap (λ (x : ℕ). bit_or (bit_or (bit_or x 128) (e * 8 % 4294967296)) l) whole ∙
    ap (λ (x : ℕ). bit_or (bit_or (bit_or (m * 256) 128) x) l) high ∙
    ap (λ (x : ℕ). bit_or (bit_or x (e * 8)) l) (flag ∙ upper) ∙
    ap (λ (x : ℕ). bit_or x l) (middle ∙ lower) ∙ (last ∙ omega arith)
