use Rattle.manager.proofs.Lawful.{lawful}
use Rattle.manager.proofs.manager.Manager.call.Goals as goal

pub returns-clause-lawful : goal.returns-clause-lawful
returns-clause-lawful g c = lawful c.args.call c.do_call.ensures.fits c.do_call.ensures.happens
