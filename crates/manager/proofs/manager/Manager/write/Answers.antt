use Rattle.std.proofs.Common.{arith}
use Rattle.manager.specs.declared.call.Call.TheVariants as call
use Rattle.manager.proofs.Lawful.{lawful}
use Rattle.manager.proofs.manager.Manager.write.Goals as goal

pub returns-clause-lawful : goal.returns-clause-lawful
returns-clause-lawful g c = lawful (call.Write c.args.socket c.args.bank c.args.select c.args.word) (omega arith) c.do_write.ensures.happens
