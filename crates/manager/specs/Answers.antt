-- The numbers of answers. Assumes nothing.
use Rattle.std.specs.Prelude.{ℕ, ◌+◌, Some, None}
use Rattle.manager.specs.declared.call.Reply.{Reply}
use Rattle.manager.specs.declared.call.Reply.TheVariants as reply
use Rattle.manager.specs.declared.tick.Tick.{Tick}
use Rattle.manager.specs.declared.tick.Tick.TheVariants.{Idle, Granted, Word, Done, Fault, Barred}
use Rattle.socket.specs.Write.{answer_number}

-- the number of each answer of a tick
abbrev pub tick_number : Tick → ℕ
tick_number Idle = 0
tick_number (Granted s) = 1
tick_number (Word s) = 2
tick_number (Done s) = 3
tick_number (Fault s f) = 4
tick_number (Barred s) = 5

-- the socket that an answer of a tick tells of, or 0
abbrev pub told_socket : Tick → ℕ
told_socket Idle = 0
told_socket (Granted s) = s
told_socket (Word s) = s
told_socket (Done s) = s
told_socket (Fault s f) = s
told_socket (Barred s) = s

-- the number of each reply: a reset tells the socket that had the port and one more, or 0
abbrev pub reply_number : Reply → ℕ
reply_number (reply.Written a) = answer_number a
reply_number (reply.Read w) = w
reply_number reply.Acknowledged = 0
reply_number (reply.Outputs b) = b
reply_number (reply.Ticked t) = tick_number t
reply_number (reply.Reset (Some s)) = s + 1
reply_number (reply.Reset None) = 0
