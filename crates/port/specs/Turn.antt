-- The eight bits of each byte of a word in reverse. Assumes nothing.
use Rattle.std.specs.Prelude.{ℕ, ◌+◌, ◌-◌, ◌*◌, ◌/◌, ◌%◌, ◌^◌, sum_by}
use Rattle.std.specs.Int.{bit_at}
use Rattle.std.specs.List.{range_with_len}

-- the bit that goes to bit i: the eight bits of every byte in reverse
abbrev pub mirror : ℕ → ℕ
mirror i = i / 8 * 8 + (7 - i % 8)

-- a 32-bit word with the eight bits of every byte in reverse
unfoldable pub turned_word : ℕ → ℕ
turned_word w = sum_by (λ i. bit_at w (mirror i) * 2 ^ i) (range_with_len 0 32)
