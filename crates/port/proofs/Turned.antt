-- Words with the eight bits of each byte in reverse. Assumes nothing.
use Rattle.std.proofs.Common.{◌≡◌, ℕ, ◌^◌, ◌<◌, sym, ap, ◌∙◌, arith}
use Rattle.std.proofs.lemmas.Nat.Bits.{bit_at-lt, same_from_bits_below}
use Rattle.std.specs.Int.{bit_at}
use Rattle.port.specs.Turn.{mirror, turned_word}
use Rattle.port.proofs.Bits.{bit_at-number, number_lt}

turned_word_lt : (w : ℕ) → turned_word w < 2 ^ 32
unfolding turned_word
turned_word_lt w = number_lt (λ i. bit_at w (mirror i)) (λ i. bit_at-lt w (mirror i)) 32

bit_at-turned_word : (w i : ℕ) → i < 32 → bit_at (turned_word w) i ≡ bit_at w (mirror i)
unfolding turned_word
bit_at-turned_word w = bit_at-number (λ i. bit_at w (mirror i)) (λ i. bit_at-lt w (mirror i)) 32

-- the word with the mirrored bits is the turned word
pub turned_from : (w r : ℕ) → r < 2 ^ 32 → ((i : ℕ) → i < 32 → bit_at r i ≡ bit_at w (mirror i)) → r ≡ turned_word w
turned_from w r h same = same_from_bits_below 32 r (turned_word w) h (turned_word_lt w) (λ i l. same i l ∙ sym (bit_at-turned_word w i l))

mirror-mirror : (i : ℕ) → mirror (mirror i) ≡ i
mirror-mirror i = omega arith

-- turned twice, a word is itself
pub turned_word-turned_word : (w : ℕ) → w < 2 ^ 32 → turned_word (turned_word w) ≡ w
turned_word-turned_word w h =
    sym (turned_from (turned_word w) w h (λ i l. ap (bit_at w) (sym (mirror-mirror i)) ∙ sym (bit_at-turned_word w (mirror i) (omega arith))))
