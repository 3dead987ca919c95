-- Stopping the old module and starting the new one. Assumes nothing.
use Rattle.std.specs.Prelude.{ℕ, ◌-◌, Bool, true, false, if◌then◌else◌, ◌==◌}
use Rattle.socket.specs.declared.control.ModuleControl.{ModuleControl}
use Rattle.socket.specs.declared.control.StopKind.{StopKind}
use Rattle.socket.specs.declared.control.StopKind.TheVariants.{NoStop, Hardware, HardwareThenSoftware, SoftwareThenHardware}
use Rattle.socket.specs.declared.change.Change.{Change}
use Rattle.socket.specs.declared.state.State.{State}
use Rattle.socket.specs.declared.state.State.TheVariants.{HardwareStop, SoftwareStop, Loading, SoftwareStart, ModuleReset, Full}
use Rattle.socket.specs.Control.{asks_reset}

-- a change from an old module to a new one, at its last stop step or not
abbrev pub change : ℕ → ℕ → Bool → Change
change old new is_last = record { old = old; new = new; is_last = is_last }

-- the state after the hardware stop
abbrev pub after_hardware : Change → State
after_hardware c = if c.is_last then Loading c.new else SoftwareStop (change c.old c.new true)

-- the state after the software stop
abbrev pub after_software : Change → State
after_software c = if c.is_last then Loading c.new else HardwareStop (change c.old c.new true)

-- the state in which a change begins, by the old module's stop kind
abbrev pub first_stop : StopKind → ℕ → ℕ → State
first_stop NoStop old new = Loading new
first_stop Hardware old new = HardwareStop (change old new true)
first_stop HardwareThenSoftware old new = HardwareStop (change old new false)
first_stop SoftwareThenHardware old new = SoftwareStop (change old new false)

-- the state after the software start: the reset, if it is asked for
abbrev pub after_start : ModuleControl → ℕ → State
after_start c m = if asks_reset c.reset then ModuleReset m c.duration else Full m

-- the state after a load: the first that the new module's control asks for
abbrev pub after_load : ModuleControl → ℕ → State
after_load c m = if c.start then SoftwareStart m else after_start c m

-- the state after a tick in the reset: full after the tick that finds nothing left
abbrev pub after_reset_tick : ℕ → ℕ → State
after_reset_tick m left = if left == 0 then Full m else ModuleReset m (left - 1)
