use Rattle.manager.specs.declared.call.Call.TheVariants as call
use Rattle.manager.proofs.Lawful.{lawful}
use Rattle.manager.proofs.manager.Manager.acknowledge.Goals as goal

pub returns-clause-lawful : goal.returns-clause-lawful
returns-clause-lawful g c = lawful (call.Acknowledge c.args.socket c.args.level) tt c.do_acknowledge.ensures.happens
