use Rattle.std.proofs.Common.{arith}
use Rattle.socket.specs.Steps.{after_step}
use Rattle.manager.proofs.Changes.{one_more}
use Rattle.manager.proofs.cabinet.step_each.Goals as goal

pub loop-socket-preserved : goal.loop-socket-preserved
loop-socket-preserved c = one_more (after_step c.args.capacity) _ _ _ _ _ (omega arith) (omega arith) c.loop-socket.invariant c.step.ensures.after
