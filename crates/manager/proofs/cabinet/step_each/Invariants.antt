use Rattle.std.proofs.Common.{◌≡◌, ◌++◌, map, take, drop}
use Rattle.socket.specs.Steps.{after_step}
use Rattle.manager.proofs.cabinet.step_each.Given as goal

-- the sockets so far have changed, and the others not yet
abbrev pub invariant-loop-socket : goal.invariant-loop-socket
invariant-loop-socket l = l.sockets ≡ map (after_step l.capacity) (take l.socket-index l.fn.sockets) ++ drop l.socket-index l.fn.sockets
