use Rattle.std.proofs.Common.{arith}
use Rattle.socket.specs.Steps.{reset_socket}
use Rattle.manager.proofs.Changes.{one_more}
use Rattle.manager.proofs.cabinet.reset_each.Goals as goal

pub loop-socket-preserved : goal.loop-socket-preserved
loop-socket-preserved c = one_more reset_socket _ _ _ _ _ (omega arith) (omega arith) c.loop-socket.invariant c.reset.ensures.after
