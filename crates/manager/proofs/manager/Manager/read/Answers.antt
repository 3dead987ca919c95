use Rattle.manager.specs.declared.call.Call.TheVariants as call
use Rattle.manager.proofs.Lawful.{lawful}
use Rattle.manager.proofs.manager.Manager.read.Goals as goal

pub returns-clause-lawful : goal.returns-clause-lawful
returns-clause-lawful g c = lawful (call.Read c.args.socket c.args.bank c.args.select) tt c.do_read.ensures.happens
