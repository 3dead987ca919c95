use Rattle.std.proofs.Common.{ℕ, ◌+◌, ◌<◌, List, map, drop, sym, refl, ap, ◌∙◌, arith, rules}
use Rattle.std.proofs.lemmas.List.FromFn.{get_or-map-range_with_len}
use Rattle.std.proofs.lemmas.List.{take_more_set}
use Rattle.std.specs.List.{range_with_len}
use Rattle.library.specs.Fault.{Cell}
use Rattle.library.specs.Check.{all_words}
use Rattle.library.proofs.Words.{followed_by, read_word}
use Rattle.library.proofs.check.ask_nine.Goals as goal

pub loop-i-preserved : goal.loop-i-preserved
loop-i-preserved g c =
    let cell : ℕ → Cell = g.L.Library.cell c.args.below.now in
    let cells : List Cell = map cell (range_with_len c.args.first 9) in
    let i = c.loop-i.i in
    let inv = c.loop-i.invariant in
    let q = c.args.first + i in
    let w = c.in_ok-word.field-0 in
    let below : i < 9 = omega arith in
    let here = get_or-map-range_with_len cell c.args.first 9 i q (cell q) below refl in
    let word = sym (ap (λ (f : ℕ → Cell). f q) inv.1.same_cells) ∙ sym c.ask.ensures.answer ∙ c.in_ok-word.was in (
      search rules,
      search rules,
      ap (λ (ws : List ℕ). followed_by ws (all_words (drop (i + 1) cells))) (take_more_set c.loop-i.word-items i w (omega arith)) ∙ sym (read_word _ cells i (cell q) below here w word) ∙ inv.2,
    )
