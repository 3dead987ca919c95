-- The numbers, modules and output bits of states. Assumes nothing.
use Rattle.std.specs.Prelude.{ℕ}
use Rattle.socket.specs.declared.state.State.{State}
use Rattle.socket.specs.declared.state.State.TheVariants.{Empty, HardwareStop, SoftwareStop, Loading, SoftwareStart, ModuleReset, Full}

-- the number of each state; there is no state 3
abbrev pub state_number : State → ℕ
state_number Empty = 0
state_number (HardwareStop c) = 1
state_number (SoftwareStop c) = 2
state_number (Loading m) = 4
state_number (SoftwareStart m) = 5
state_number (ModuleReset m left) = 6
state_number (Full m) = 7

-- the module of each state: the old one while it is stopped, then the new one, and 0 for none
abbrev pub shown_module : State → ℕ
shown_module Empty = 0
shown_module (HardwareStop c) = c.old
shown_module (SoftwareStop c) = c.old
shown_module (Loading m) = m
shown_module (SoftwareStart m) = m
shown_module (ModuleReset m left) = m
shown_module (Full m) = m

-- the output bits in each state: 1 rm_shutdown_req, 2 rm_decouple, 4 sw_shutdown_req, 8 sw_startup_req, 16 rm_reset
abbrev pub outputs_of : State → ℕ
outputs_of Empty = 2
outputs_of (HardwareStop c) = 1
outputs_of (SoftwareStop c) = 4
outputs_of (Loading m) = 2
outputs_of (SoftwareStart m) = 10
outputs_of (ModuleReset m left) = 16
outputs_of (Full m) = 0
