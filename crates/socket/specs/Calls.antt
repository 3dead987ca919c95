-- The calls that change a socket. Assumes nothing.
use Rattle.socket.specs.declared.capacity.Capacity.{Capacity}
use Rattle.socket.specs.declared.level.Level.{Level}
use Rattle.socket.specs.declared.mode.Error.{Error}
use Rattle.socket.specs.declared.socket.Socket.{Socket}
use Rattle.socket.specs.declared.write.Write.{Write}
use Rattle.socket.specs.Socket.{fresh_socket, with_level}
use Rattle.socket.specs.Steps.{failed_socket, loaded_socket, reset_socket, after_step}
use Rattle.socket.specs.Writes.{after_write}

-- The calls that change a socket.
pub data Call : Type 0 where
  stepping : Call
  writing : Write → Call
  acknowledging : Level → Call
  finishing : Call
  failing : Error → Call
  resetting : Call

-- a socket after a call
abbrev pub after_call : Capacity → Call → Socket → Socket
after_call k stepping s = after_step k s
after_call k (writing w) s = after_write k w s
after_call k (acknowledging l) s = with_level s l
after_call k finishing s = loaded_socket s
after_call k (failing e) s = failed_socket e s
after_call k resetting s = reset_socket s

-- A socket that was made, and then only called.
pub data Reached (k : Capacity) : Socket → Type 0 where
  made : Reached k (fresh_socket k)
  called : {s : Socket} (c : Call) → Reached k s → Reached k (after_call k c s)
