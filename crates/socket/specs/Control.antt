-- A module's control, and the word that stands for it. Assumes nothing.
use Rattle.std.specs.Prelude.{ℕ, ◌+◌, ◌*◌, ◌/◌, ◌%◌, Bool, true, false, cond, ◌==◌}
use Rattle.socket.specs.declared.control.ModuleControl.{ModuleControl}
use Rattle.socket.specs.declared.control.ResetCode.{ResetCode}
use Rattle.socket.specs.declared.control.ResetCode.TheVariants.{NoReset, Reserved, ActiveLow, ActiveHigh}
use Rattle.socket.specs.declared.control.StopKind.{StopKind}
use Rattle.socket.specs.declared.control.StopKind.TheVariants.{NoStop, Hardware, HardwareThenSoftware, SoftwareThenHardware}

-- the number of each stop kind
abbrev pub stop_number : StopKind → ℕ
stop_number NoStop = 0
stop_number Hardware = 1
stop_number HardwareThenSoftware = 2
stop_number SoftwareThenHardware = 3

-- the stop kind with a number
abbrev pub stop_of_number : ℕ → StopKind
stop_of_number n = cond (n == 0) NoStop (cond (n == 1) Hardware (cond (n == 2) HardwareThenSoftware SoftwareThenHardware))

-- the number of each reset code
abbrev pub reset_number : ResetCode → ℕ
reset_number NoReset = 0
reset_number Reserved = 1
reset_number ActiveLow = 2
reset_number ActiveHigh = 3

-- the reset code with a number
abbrev pub reset_of_number : ℕ → ResetCode
reset_of_number n = cond (n == 0) NoReset (cond (n == 1) Reserved (cond (n == 2) ActiveLow ActiveHigh))

-- whether a reset code asks for a reset
abbrev pub asks_reset : ResetCode → Bool
asks_reset NoReset = false
asks_reset Reserved = false
asks_reset ActiveLow = true
asks_reset ActiveHigh = true

-- a truth as a bit
abbrev pub bit_of : Bool → ℕ
bit_of false = 0
bit_of true = 1

-- stop kind in bits 1:0, start in bit 2, reset code in bits 4:3, duration in bits 12:5
abbrev pub control_word : ModuleControl → ℕ
control_word c = stop_number c.stop + bit_of c.start * 4 + reset_number c.reset * 8 + c.duration * 32

-- the control that a word stands for
abbrev pub control_of_word : ℕ → ModuleControl
control_of_word w = record { stop = stop_of_number (w % 4); start = (w / 4 % 2 == 1); reset = reset_of_number (w / 8 % 4); duration = w / 32 % 256 }
