-- What a socket shows: STATUS, its outputs and its other registers. Assumes nothing.
use Rattle.std.specs.Prelude.{ℕ, ◌+◌, ◌*◌, ◌/◌, ◌%◌, Bool, cond, Some, None, Option, ◌==◌}
use Rattle.std.specs.Option.{unwrap_or}
use Rattle.socket.specs.declared.level.Level.{Level}
use Rattle.socket.specs.declared.register.Register.{Register}
use Rattle.socket.specs.declared.register.Register.TheVariants as register
use Rattle.socket.specs.declared.socket.Socket.{Socket}
use Rattle.socket.specs.declared.mode.Error.{Error}
use Rattle.socket.specs.declared.mode.Error.TheVariants.{BadRow, Library, Port}
use Rattle.socket.specs.declared.mode.Mode.{Mode}
use Rattle.socket.specs.declared.mode.Mode.TheVariants.{Active, Shutdown}
use Rattle.socket.specs.Level.{level_number}
use Rattle.socket.specs.TableRegisters.{table_word}
use Rattle.socket.specs.Mode.{error_number, is_active}
use Rattle.socket.specs.State.{outputs_of, shown_module, state_number}

-- the error bits: 0 for no error
abbrev pub error_bits : Option Error → ℕ
error_bits None = 0
error_bits (Some e) = error_number e

-- STATUS by mode: module in bits 23:8, shutdown flag in 7, error in 6:3, state in 2:0, which in shutdown is the level
abbrev pub status_of : Level → Mode → ℕ
status_of l (Active st held pending) = shown_module st * 256 + state_number st
status_of l (Shutdown loaded e outputs) = unwrap_or loaded 0 * 256 + 128 + error_bits e * 8 + level_number l

-- the STATUS word of a socket
abbrev pub status_word : Socket → ℕ
status_word s = status_of s.level s.mode

-- SW_TRIGGER by mode: bit 31 and the pending trigger, or 0 with none
abbrev pub trigger_of : Mode → ℕ
trigger_of (Active st held None) = 0
trigger_of (Active st held (Some t)) = 2147483648 + t
trigger_of (Shutdown loaded e outputs) = 0

-- what a register of a socket reads: the tables read 0 while it is active
abbrev pub read_word : Socket → Register → ℕ
read_word s register.Status = status_word s
read_word s register.SwTrigger = trigger_of s.mode
read_word s r = cond (is_active s.mode) 0 (table_word s.tables r)

-- the output bits by mode: those of the state, and in shutdown those that were set
abbrev pub output_bits : Mode → ℕ
output_bits (Active st held pending) = outputs_of st
output_bits (Shutdown loaded e outputs) = outputs

-- the module in a STATUS word
abbrev pub module_field : ℕ → ℕ
module_field w = w / 256 % 65536

-- whether a STATUS word says shutdown
abbrev pub shutdown_field : ℕ → Bool
shutdown_field w = w / 128 % 2 == 1

-- the error with a number
abbrev pub error_of_number : ℕ → Option Error
error_of_number n = cond (n == 1) (Some BadRow) (cond (n == 2) (Some Library) (cond (n == 3) (Some Port) None))

-- the error in a STATUS word
abbrev pub error_field : ℕ → Option Error
error_field w = error_of_number (w / 8 % 16)

-- the state, or in shutdown the level, in a STATUS word
abbrev pub state_field : ℕ → ℕ
state_field w = w % 8
