-- What a write makes of a socket, or none where it is ignored. Assumes nothing.
use Rattle.std.specs.Prelude.{ℕ, ◌%◌, Bool, true, Some, None, Option, is_some, if◌then◌else◌, nat_lt}
use Rattle.std.specs.Option.{option_map, unwrap_or}
use Rattle.socket.specs.declared.capacity.Capacity.{Capacity}
use Rattle.socket.specs.declared.command.Command.{Command}
use Rattle.socket.specs.declared.command.Command.TheVariants as command
use Rattle.socket.specs.declared.socket.Socket.{Socket}
use Rattle.socket.specs.declared.mode.Error.{Error}
use Rattle.socket.specs.declared.mode.Mode.{Mode}
use Rattle.socket.specs.declared.mode.Mode.TheVariants.{Active, Shutdown}
use Rattle.socket.specs.declared.state.State.{State}
use Rattle.socket.specs.declared.state.State.TheVariants.{SoftwareStop, SoftwareStart}
use Rattle.socket.specs.declared.tables.Tables.{Tables}
use Rattle.socket.specs.declared.write.Answer.{Answer}
use Rattle.socket.specs.declared.write.Answer.TheVariants.{Taken, Ignored}
use Rattle.socket.specs.declared.write.Write.{Write}
use Rattle.socket.specs.declared.write.Write.TheVariants as write
use Rattle.socket.specs.Change.{after_software, after_start}
use Rattle.socket.specs.Mode.{rest_state, started_mode}
use Rattle.socket.specs.Socket.{with_mode, with_tables}
use Rattle.socket.specs.TableRegisters.{table_write}
use Rattle.socket.specs.Tables.{control_of}

-- the state after Proceed, which ends a software stop or a software start
abbrev pub after_proceed : Tables → State → Option State
after_proceed t (SoftwareStop c) = Some (after_software c)
after_proceed t (SoftwareStart m) = Some (after_start (control_of t m) m)
after_proceed t st = None

-- an active socket after a command
abbrev pub active_command : Tables → State → Bool → Option ℕ → Command → Option Mode
active_command t st held pending command.Shutdown = Some (Active st true pending)
active_command t st held pending command.Proceed = option_map (λ next. Active next held pending) (after_proceed t st)
active_command t st held pending c = None

-- whether Restart with Status names a module that there is, or none
abbrev pub is_known : Capacity → Option ℕ → Bool
is_known k None = true
is_known k (Some m) = nat_lt m k.modules

-- a socket in shutdown after a command; a restart takes no error along
abbrev pub shutdown_command : Capacity → Option ℕ → Option Error → Command → Option Mode
shutdown_command k loaded e command.Restart = Some (started_mode (rest_state loaded))
shutdown_command k loaded e (command.RestartWithStatus m) = if is_known k m then Some (started_mode (rest_state m)) else None
shutdown_command k loaded e (command.UserControl b) = Some (Shutdown loaded e (b % 32))
shutdown_command k loaded e c = None

-- a mode after a command
abbrev pub commanded_mode : Capacity → Tables → Command → Mode → Option Mode
commanded_mode k t c (Active st held pending) = active_command t st held pending c
commanded_mode k t c (Shutdown loaded e outputs) = shutdown_command k loaded e c

-- a mode with another pending trigger
abbrev pub triggered_mode : ℕ → Mode → Option Mode
triggered_mode i (Active st held pending) = Some (Active st held (Some i))
triggered_mode i (Shutdown loaded e outputs) = None

-- the tables by mode: those of an active socket are not written
abbrev pub written_tables : Write → Tables → Mode → Option Tables
written_tables w t (Active st held pending) = None
written_tables w t (Shutdown loaded e outputs) = Some (table_write w t)

-- a socket after a write that is taken
abbrev pub after_taken_write : Capacity → Write → Socket → Option Socket
after_taken_write k (write.Control c) s = option_map (with_mode s) (commanded_mode k s.tables c s.mode)
after_taken_write k (write.SwTrigger i) s = option_map (with_mode s) (triggered_mode i s.mode)
after_taken_write k w s = option_map (with_tables s) (written_tables w s.tables s.mode)

-- a socket after a write: an ignored one changes nothing
abbrev pub after_write : Capacity → Write → Socket → Socket
after_write k w s = unwrap_or (after_taken_write k w s) s

-- how a write is answered
abbrev pub write_answer : Capacity → Write → Socket → Answer
write_answer k w s = if is_some (after_taken_write k w s) then Taken else Ignored
