-- The numbers of refusals. Assumes nothing.
use Rattle.std.specs.Prelude.{ℕ}
use Rattle.socket.specs.declared.refusal.Refusal.TheVariants as socket
use Rattle.socket.specs.declared.refusal.Refusal.{Refusal as SocketRefusal}
use Rattle.manager.specs.declared.refusal.Refusal.{Refusal}
use Rattle.manager.specs.declared.refusal.Refusal.TheVariants.{BadNumber, BadPort, NoSocket, NoRegister, BadWord, CeilingReached, BadLevel}

-- the number of each refusal
abbrev pub refusal_number : Refusal → ℕ
refusal_number BadNumber = 1
refusal_number BadPort = 2
refusal_number NoSocket = 3
refusal_number NoRegister = 4
refusal_number BadWord = 5
refusal_number CeilingReached = 6
refusal_number BadLevel = 7

-- a refusal of one socket, as the manager tells it
abbrev pub socket_refusal : SocketRefusal → Refusal
socket_refusal socket.NoRegister = NoRegister
socket_refusal socket.BadWord = BadWord
socket_refusal socket.BadLevel = BadLevel
