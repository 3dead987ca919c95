use Rattle.manager.specs.declared.call.Call.TheVariants as call
use Rattle.manager.proofs.Lawful.{lawful}
use Rattle.manager.proofs.manager.Manager.reset.Goals as goal

pub returns-clause-lawful : goal.returns-clause-lawful
returns-clause-lawful g c = lawful (call.Reset) tt c.do_reset.ensures.happens
