use Rattle.std.proofs.Common.{rules}
use Rattle.std.proofs.lemmas.List.{take-replicate}
use Rattle.socket.specs.Socket.{fresh_socket}
use Rattle.manager.proofs.making.new_sockets.Goals as goal

pub returns : goal.returns
returns c = let first = take-replicate c.args.n 8 (fresh_socket c.args.capacity) c.requires in search rules
