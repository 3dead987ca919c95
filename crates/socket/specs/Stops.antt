-- The stop steps between a full socket and the loading of another module. Assumes nothing.
use Rattle.std.specs.Prelude.{◌≡◌, ◌≢◌, ℕ, Bool, true, false, List, [], ◌∷◌, ◌++◌, Option}
use Rattle.socket.specs.declared.capacity.Capacity.{Capacity}
use Rattle.socket.specs.declared.command.Command.{Command}
use Rattle.socket.specs.declared.command.Command.TheVariants.{Proceed}
use Rattle.socket.specs.declared.control.StopKind.{StopKind}
use Rattle.socket.specs.declared.control.StopKind.TheVariants.{NoStop, Hardware, HardwareThenSoftware, SoftwareThenHardware}
use Rattle.socket.specs.declared.level.Level.{Level}
use Rattle.socket.specs.declared.level.Level.TheVariants.{High}
use Rattle.socket.specs.declared.mode.Mode.{Mode}
use Rattle.socket.specs.declared.mode.Mode.TheVariants.{Active}
use Rattle.socket.specs.declared.socket.Socket.{Socket}
use Rattle.socket.specs.declared.state.State.TheVariants.{HardwareStop, SoftwareStop, Loading, Full}
use Rattle.socket.specs.declared.write.Write.TheVariants.{Control}
use Rattle.socket.specs.Calls.{Call, after_call, stepping, writing}
use Rattle.socket.specs.Tables.{control_of}

-- One stop step of a module.
pub data Stop : Type 0 where
  hardware : Stop
  software : Stop

-- the stop steps of each kind, in order
abbrev pub stop_steps : StopKind → List Stop
stop_steps NoStop = []
stop_steps Hardware = hardware ∷ []
stop_steps HardwareThenSoftware = hardware ∷ software ∷ []
stop_steps SoftwareThenHardware = software ∷ hardware ∷ []

-- whether a socket stops its old module
abbrev pub is_stopping : Mode → Bool
is_stopping (Active (HardwareStop c) held pending) = true
is_stopping (Active (SoftwareStop c) held pending) = true
is_stopping m = false

-- whether it waits for its new module
abbrev pub is_loading : Mode → Bool
is_loading (Active (Loading m) held pending) = true
is_loading m = false

-- whether it is on the way from one module to another
abbrev pub is_changing : Mode → Bool
is_changing (Active (HardwareStop c) held pending) = true
is_changing (Active (SoftwareStop c) held pending) = true
is_changing (Active (Loading m) held pending) = true
is_changing m = false

-- a step that finds level 1 in the hardware stop answers it
abbrev pub answered_by_step : Level → Mode → List Stop
answered_by_step High (Active (HardwareStop c) held pending) = hardware ∷ []
answered_by_step l m = []

-- Proceed in the software stop answers it
abbrev pub answered_by_command : Command → Mode → List Stop
answered_by_command Proceed (Active (SoftwareStop c) held pending) = software ∷ []
answered_by_command c m = []

-- the stop steps that a call answers
abbrev pub answered_stops : Call → Socket → List Stop
answered_stops stepping s = answered_by_step s.level s.mode
answered_stops (writing (Control c)) s = answered_by_command c s.mode
answered_stops c s = []

-- Since a socket that was full took up a trigger, its old module having that stop kind, just these stop steps were answered, in this order.
pub data Answered (k : Capacity) (kind : StopKind) : List Stop → Socket → Type 0 where
  begun : (s : Socket) (old : ℕ) (held : Bool) (pending : Option ℕ) → s.mode ≡ Active (Full old) held pending → is_changing (after_call k stepping s).mode ≡ true → (control_of s.tables old).stop ≡ kind → Answered k kind [] (after_call k stepping s)
  called : {steps : List Stop} {s : Socket} (c : Call) → Answered k kind steps s → is_stopping s.mode ≡ true → Answered k kind (steps ++ answered_stops c s) (after_call k c s)

-- What the answered steps say of where a socket stands.
pub record InOrder (kind : StopKind) (steps : List Stop) (m : Mode) : Type 0 where
  -- it loads when all stop steps of the old module's kind were answered, in order
  pub loads : is_loading m ≡ true → steps ≡ stop_steps kind
  -- and stops while some are left
  pub stops : is_stopping m ≡ true → (rest : List Stop) × (rest ≢ []) × (steps ++ rest ≡ stop_steps kind)

-- From rest to loading a socket passes exactly the stop steps of its old module's kind, in order.
abbrev pub StopSteps : Capacity → Type 0
StopSteps k = (kind : StopKind) (steps : List Stop) (s : Socket) → Answered k kind steps s → InOrder kind steps s.mode
