use Rattle.std.proofs.Common.{◌≡◌, ◌++◌, map, take, drop}
use Rattle.socket.specs.Steps.{reset_socket}
use Rattle.manager.proofs.cabinet.reset_each.Given as goal

-- the sockets so far have changed, and the others not yet
abbrev pub invariant-loop-socket : goal.invariant-loop-socket
invariant-loop-socket l = l.sockets ≡ map (reset_socket) (take l.socket-index l.fn.sockets) ++ drop l.socket-index l.fn.sockets
