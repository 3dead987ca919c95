use Rattle.manager.proofs.Makings.{run_none}
use Rattle.manager.proofs.manager.Manager.new.Goals as goal

pub returns-in-Err-clause-run : goal.returns-in-Err-clause-run
returns-in-Err-clause-run g c = run_none _ _ _ c.new.ensures
