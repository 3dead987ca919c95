use Rattle.std.proofs.Common.{List, length, ap, ◌∙◌, rules, tests}
use Rattle.std.proofs.lemmas.Iterator.Adapters.{YieldsList-from_rev_slice}
use Rattle.std.proofs.lemmas.Iterator.Search.{YieldsList-from_take_while}
use Rattle.std.proofs.lemmas.Iterator.Consumers.{YieldsList-at, YieldsList-from_filter, count_from_yields_List}
use Rattle.port.specs.declared.tape_record.Record.{Record}
use Rattle.port.specs.Records.{words_of}
use Rattle.port.proofs.Lists.{is_of, length-behind, unmarked_by}
use Rattle.port.proofs.tape.TapePort.length.Goals as goal

pub returns : goal.returns
returns c =
    let used = c.used_records-used.result.now in
    let s = c.args.s in
    count_from_yields_List c.take_while.result _ c.count.ensures.ran
    (YieldsList-from_take_while _ (unmarked_by s)
    (YieldsList-at c.take_while.ensures.source
    (YieldsList-from_filter _ (is_of s) (YieldsList-from_rev_slice used cc) c.filter.ensures.closure (λ x b q k. search (rules, tests))))
    c.take_while.ensures.closure c.take_while.ensures.done (λ x b q k. search (rules, tests))) ∙
    length-behind s used ∙ ap (λ (rs : List Record). length (words_of s rs)) c.used_records-used.ensures
