-- Modes: at rest, started, in shutdown. Assumes nothing.
use Rattle.std.specs.Prelude.{ℕ, Bool, true, false, Some, None, Option}
use Rattle.socket.specs.declared.mode.Error.{Error}
use Rattle.socket.specs.declared.mode.Error.TheVariants.{BadRow, Library, Port}
use Rattle.socket.specs.declared.mode.Mode.{Mode}
use Rattle.socket.specs.declared.mode.Mode.TheVariants.{Active, Shutdown}
use Rattle.socket.specs.declared.state.State.{State}
use Rattle.socket.specs.declared.state.State.TheVariants.{Empty, Full}
use Rattle.socket.specs.State.{outputs_of}

-- the state at rest, with what is loaded
abbrev pub rest_state : Option ℕ → State
rest_state None = Empty
rest_state (Some m) = Full m

-- shutdown with what is loaded, whose outputs are those of the state at rest
abbrev pub shutdown_mode : Option ℕ → Option Error → Mode
shutdown_mode loaded e = Shutdown loaded e (outputs_of (rest_state loaded))

-- active in a state, with no Shutdown held and no trigger pending
abbrev pub started_mode : State → Mode
started_mode st = Active st false None

-- whether a mode is active
abbrev pub is_active : Mode → Bool
is_active (Active st held pending) = true
is_active (Shutdown loaded e outputs) = false

-- the number of each error
abbrev pub error_number : Error → ℕ
error_number BadRow = 1
error_number Library = 2
error_number Port = 3
