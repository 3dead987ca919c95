use Rattle.std.proofs.Common.{arith, rules, tests}
use Rattle.std.proofs.lemmas.Grind.{common_steps}
use Rattle.std.proofs.lemmas.Iterator.{YieldsList-from_slice}
use Rattle.std.proofs.lemmas.Iterator.Consumers.{YieldsList-from_filter_map, nth_from_yields_List}
use Rattle.std.proofs.lemmas.Iterator.Adapters.{option_map_id}
use Rattle.port.specs.Records.{word_for}
use Rattle.port.proofs.tape.TapePort.word.Goals as goal

pub returns : goal.returns
returns c =
    let is =
    nth_from_yields_List c.nth.result _ _ c.nth.ensures.ran
    (YieldsList-from_filter_map _ (word_for c.args.s) (YieldsList-from_slice c.list.result.now cc) c.filter_map.ensures.closure (λ x r q k. search (rules, tests))) in
    grind (arith, common_steps, is, option_map_id c.nth.result, c.list.ensures)
