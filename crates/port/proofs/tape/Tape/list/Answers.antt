use Rattle.std.proofs.Common.{arith}
use Rattle.std.proofs.lemmas.Grind.{common_steps}
use Rattle.port.specs.Tape.{used_records}
use Rattle.port.proofs.Lists.{words_of-behind}
use Rattle.port.proofs.tape.Tape.list.Goals as goal

pub returns : goal.returns
returns c =
    let list = words_of-behind c.args.s c.behind.result (used_records c.args.self.now) c.behind.ensures in
    grind (arith, common_steps, list)
