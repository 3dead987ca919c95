use Rattle.std.proofs.Common.{arith, rules}
use Rattle.port.proofs.Histories.{loaded}
use Rattle.port.proofs.loading.load.Goals as goal

pub returns-clause-after : goal.returns-clause-after
returns-clause-after g c =
    let means = g.P.Port.means in
    let put = c.put_all-count.ensures in
    loaded c.args.s c.put_all-count.result c.args.words.now (means c.args.port.now) (means c.open.new.self) (means c.put_all-count.new.port) (means c.close.new.self)
    (search rules) put.after c.close.ensures.after (omega (arith, put.count))
