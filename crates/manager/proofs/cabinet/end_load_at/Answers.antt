use Rattle.manager.specs.Sockets.{ended_socket}
use Rattle.manager.proofs.Changes.{end_at, with_change-past}
use Rattle.manager.proofs.cabinet.end_load_at.Goals as goal

pub returns-in-Ok : goal.returns-in-Ok
returns-in-Ok c = end_at _ _ c.in-Ok.is _ _ _ _ c.if-s-sockets.true c.finish_load.ensures

pub returns-in-Err : goal.returns-in-Err
returns-in-Err c = end_at _ _ c.in-Err.is _ _ _ _ c.if-s-sockets.true c.fail_load.ensures

pub returns-else-s-sockets : goal.returns-else-s-sockets
returns-else-s-sockets c = with_change-past (ended_socket c.args.outcome) _ _ c.if-s-sockets.false
