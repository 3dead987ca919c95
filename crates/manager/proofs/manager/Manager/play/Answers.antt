use Rattle.std.proofs.Common.{◌<◌, length, length-take, arith, rules}
use Rattle.std.proofs.lemmas.List.{get_or-take}
use Rattle.manager.proofs.Plays.{first_lawfully, one_fits, one_played, rest_more}
use Rattle.manager.proofs.manager.Manager.play.Goals as goal

pub loop-i-preserved : goal.loop-i-preserved
loop-i-preserved g c =
    let i = c.loop-i.i in
    let asked = c.args.calls.now in
    let inv = c.loop-i.invariant in
    let in_count : i < c.min-count.result = omega (arith, length-take c.min-count.result asked) in
    let in_calls : i < length asked = omega (arith, length-take c.min-count.result asked) in
    let in_replies : i < length c.loop-i.replies = omega arith in (
      search rules,
      rest_more c.loop-i.replies c.args.replies.now i c.do_call.result inv.1,
      one_fits asked i _ _ in_calls (get_or-take c.min-count.result asked i _ in_count) inv.2 c.do_call.ensures.fits,
      search rules,
      one_played asked c.loop-i.replies i _ _ _ _ inv.3.same_cells in_calls in_replies (get_or-take c.min-count.result asked i _ in_count) inv.4 c.do_call.ensures.happens,
    )

pub returns-clause-lawful : goal.returns-clause-lawful
returns-clause-lawful g c =
    let inv = c.loop-i.invariant in
    first_lawfully c.args.calls.now c.loop-i.replies c.loop-i.i c.min-count.result (omega (arith, length-take c.min-count.result c.args.calls.now)) inv.2 inv.4
