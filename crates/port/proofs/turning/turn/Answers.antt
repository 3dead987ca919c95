use Rattle.std.proofs.Common.{◌≡◌, ℕ, ◌-◌, ◌*◌, ◌+◌, ◌/◌, ◌%◌, ◌<◌, ap, ◌∙◌, arith}
use Rattle.std.specs.Int.{bit_at}
use Rattle.port.specs.Turn.{mirror, turned_word}
use Rattle.port.proofs.Reversed.{reversed, swapped}
use Rattle.port.proofs.Turned.{turned_from, turned_word-turned_word}
use Rattle.port.proofs.turning.turn.Goals as goal

pub returns : goal.returns
returns c =
    let w = c.args.word in
    let r = c.reverse_bits.result in
    let bits : (i : ℕ) → i < 32 → bit_at c.swap_bytes.result i ≡ bit_at w (mirror i) = λ i h.
    ap (λ (x : ℕ). bit_at x i) c.swap_bytes.ensures ∙ swapped r i h ∙
    ap (λ (x : ℕ). bit_at x ((3 - i / 8) * 8 + i % 8)) c.reverse_bits.ensures ∙
    reversed 32 w 0 ((3 - i / 8) * 8 + i % 8) (omega arith) ∙ ap (bit_at w) (omega arith) in
    let is = turned_from w c.swap_bytes.result c.swap_bytes.type_inv bits in
    record { value = is; twice = ap turned_word is ∙ turned_word-turned_word w c.ranges.word.fits }
