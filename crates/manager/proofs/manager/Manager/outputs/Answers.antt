use Rattle.manager.specs.declared.call.Call.TheVariants as call
use Rattle.manager.proofs.Lawful.{lawful}
use Rattle.manager.proofs.manager.Manager.outputs.Goals as goal

pub returns-clause-lawful : goal.returns-clause-lawful
returns-clause-lawful g c = lawful (call.Outputs c.args.socket) tt c.do_outputs.ensures.happens
