-- One step of a socket, the end of a load, and a reset. Assumes nothing.
use Rattle.std.specs.Prelude.{ℕ, Bool, true, false, Some, None, Option, if◌then◌else◌}
use Rattle.socket.specs.declared.capacity.Capacity.{Capacity}
use Rattle.socket.specs.declared.level.Level.{Level}
use Rattle.socket.specs.declared.level.Level.TheVariants.{Low, High}
use Rattle.socket.specs.declared.socket.Socket.{Socket}
use Rattle.socket.specs.declared.mode.Error.{Error}
use Rattle.socket.specs.declared.mode.Error.TheVariants.{BadRow}
use Rattle.socket.specs.declared.mode.Mode.{Mode}
use Rattle.socket.specs.declared.mode.Mode.TheVariants.{Active, Shutdown}
use Rattle.socket.specs.declared.state.State.{State}
use Rattle.socket.specs.declared.state.State.TheVariants.{Empty, HardwareStop, SoftwareStop, Loading, SoftwareStart, ModuleReset, Full}
use Rattle.socket.specs.declared.tables.File.{File}
use Rattle.socket.specs.declared.tables.Tables.{Tables}
use Rattle.socket.specs.Change.{after_hardware, after_load, after_reset_tick, first_stop}
use Rattle.socket.specs.Mode.{rest_state, shutdown_mode, started_mode}
use Rattle.socket.specs.Socket.{with_mode}
use Rattle.socket.specs.Tables.{control_of, file_of, has_bad_row, module_of, row_of}

-- the state in which module m replaces what is loaded
abbrev pub replacing_state : Tables → Option ℕ → ℕ → State
replacing_state t None m = Loading m
replacing_state t (Some old) m = first_stop (control_of t old).stop old m

-- a trigger for module m is taken up: a bad row keeps what is loaded and enters shutdown
abbrev pub after_take_up : Capacity → Tables → Option ℕ → ℕ → Mode
after_take_up k t loaded m = if has_bad_row k t m then shutdown_mode loaded (Some BadRow) else started_mode (replacing_state t loaded m)

-- a step at rest: a held Shutdown goes before a pending trigger
abbrev pub rest_step : Capacity → Tables → Option ℕ → Bool → Option ℕ → Mode
rest_step k t loaded true pending = shutdown_mode loaded None
rest_step k t loaded false None = started_mode (rest_state loaded)
rest_step k t loaded false (Some i) = after_take_up k t loaded (module_of t i)

-- a step in the hardware stop: it ends at level 1
abbrev pub state_at_level : Level → State → State → State
state_at_level Low st next = st
state_at_level High st next = next

-- a step by the state that a socket stands in
abbrev pub state_step : Capacity → Tables → Level → State → Bool → Option ℕ → Mode
state_step k t l Empty held pending = rest_step k t None held pending
state_step k t l (HardwareStop c) held pending = Active (state_at_level l (HardwareStop c) (after_hardware c)) held pending
state_step k t l (SoftwareStop c) held pending = Active (SoftwareStop c) held pending
state_step k t l (Loading m) held pending = Active (Loading m) held pending
state_step k t l (SoftwareStart m) held pending = Active (SoftwareStart m) held pending
state_step k t l (ModuleReset m left) held pending = Active (after_reset_tick m left) held pending
state_step k t l (Full m) held pending = rest_step k t (Some m) held pending

-- a step by mode: none in shutdown
abbrev pub mode_step : Capacity → Tables → Level → Mode → Mode
mode_step k t l (Active st held pending) = state_step k t l st held pending
mode_step k t l (Shutdown loaded e outputs) = Shutdown loaded e outputs

-- a socket after its step of a tick
abbrev pub after_step : Capacity → Socket → Socket
after_step k s = with_mode s (mode_step k s.tables s.level s.mode)

-- the module that a mode waits to load
abbrev pub awaited_module : Mode → Option ℕ
awaited_module (Active (Loading m) held pending) = Some m
awaited_module m = None

-- the file of a module's row
abbrev pub module_file : Tables → Option ℕ → Option File
module_file t None = None
module_file t (Some m) = Some (file_of t (row_of t m))

-- the file that a socket waits for
abbrev pub awaited_file : Socket → Option File
awaited_file s = module_file s.tables (awaited_module s.mode)

-- a mode whose awaited module was loaded
abbrev pub loaded_mode : Tables → Mode → Mode
loaded_mode t (Active (Loading m) held pending) = Active (after_load (control_of t m) m) held pending
loaded_mode t m = m

-- a socket whose awaited module was loaded; another is as before
abbrev pub loaded_socket : Socket → Socket
loaded_socket s = with_mode s (loaded_mode s.tables s.mode)

-- a mode whose load failed
abbrev pub failed_mode : Error → Mode → Mode
failed_mode e (Active (Loading m) held pending) = shutdown_mode None (Some e)
failed_mode e m = m

-- a socket whose load failed: empty and in shutdown; another is as before
abbrev pub failed_socket : Error → Socket → Socket
failed_socket e s = with_mode s (failed_mode e s.mode)

-- the state after a reset: a stopped module is started again, and so is one that starts or is there
abbrev pub state_reset : Tables → State → State
state_reset t Empty = Empty
state_reset t (HardwareStop c) = after_load (control_of t c.old) c.old
state_reset t (SoftwareStop c) = after_load (control_of t c.old) c.old
state_reset t (Loading m) = Empty
state_reset t (SoftwareStart m) = after_load (control_of t m) m
state_reset t (ModuleReset m left) = after_load (control_of t m) m
state_reset t (Full m) = after_load (control_of t m) m

-- a mode after a reset: what is held or pending is lost, and shutdown stays
abbrev pub mode_reset : Tables → Mode → Mode
mode_reset t (Active st held pending) = started_mode (state_reset t st)
mode_reset t (Shutdown loaded e outputs) = Shutdown loaded e outputs

-- a socket after a reset
abbrev pub reset_socket : Socket → Socket
reset_socket s = with_mode s (mode_reset s.tables s.mode)
