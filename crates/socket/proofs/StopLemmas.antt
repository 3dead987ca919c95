-- The stop steps of a change are passed in order.
use Rattle.std.proofs.Common.{◌≡◌, ◌≢◌, ℕ, Bool, true, false, cond, List, [], ◌∷◌, ◌++◌, Some, None, Option, refl, sym, ap, subst, ◌∙◌, append_assoc, append-nil}
use Rattle.socket.specs.declared.capacity.Capacity.{Capacity}
use Rattle.socket.specs.declared.command.Command.TheVariants as command
use Rattle.socket.specs.declared.control.ModuleControl.{ModuleControl}
use Rattle.socket.specs.declared.control.StopKind.{StopKind}
use Rattle.socket.specs.declared.control.StopKind.TheVariants.{NoStop, Hardware, HardwareThenSoftware, SoftwareThenHardware}
use Rattle.socket.specs.declared.level.Level.{Level}
use Rattle.socket.specs.declared.level.Level.TheVariants.{Low, High}
use Rattle.socket.specs.declared.mode.Error.TheVariants.{BadRow}
use Rattle.socket.specs.declared.mode.Mode.{Mode}
use Rattle.socket.specs.declared.mode.Mode.TheVariants.{Active}
use Rattle.socket.specs.declared.socket.Socket.{Socket}
use Rattle.socket.specs.declared.state.State.TheVariants.{HardwareStop, SoftwareStop, Loading, SoftwareStart, ModuleReset, Full}
use Rattle.socket.specs.declared.tables.Tables.{Tables}
use Rattle.socket.specs.declared.write.Write.TheVariants as write
use Rattle.socket.specs.Calls.{Call, acknowledging, after_call, failing, finishing, resetting, stepping, writing}
use Rattle.socket.specs.Change.{after_load, change, first_stop}
use Rattle.socket.specs.Control.{asks_reset}
use Rattle.socket.specs.Mode.{shutdown_mode, started_mode}
use Rattle.socket.specs.Steps.{mode_step, rest_step}
use Rattle.socket.specs.Stops.{Answered, InOrder, Stop, StopSteps, answered_stops, begun, called, hardware, is_changing, is_loading, is_stopping, software, stop_steps}
use Rattle.socket.specs.Tables.{control_of, has_bad_row, module_of}

-- the stop steps that a stop still owes
abbrev owed_from : Bool → Stop → Stop → List Stop
owed_from true this other = this ∷ []
owed_from false this other = this ∷ other ∷ []

abbrev owed : Mode → List Stop
owed (Active (HardwareStop c) held pending) = owed_from c.is_last hardware software
owed (Active (SoftwareStop c) held pending) = owed_from c.is_last software hardware
owed m = []

-- a change begins with all steps of the old module's kind
first_owes : (kind : StopKind) (old new : ℕ) → owed (started_mode (first_stop kind old new)) ≡ stop_steps kind
first_owes NoStop old new = refl
first_owes Hardware old new = refl
first_owes HardwareThenSoftware old new = refl
first_owes SoftwareThenHardware old new = refl

module _ (k : Capacity) (t : Tables) where
  taken_owes : (old new : ℕ) (bad : Bool) → is_changing (cond bad (shutdown_mode (Some old) (Some BadRow)) (started_mode (first_stop (control_of t old).stop old new))) ≡ true → owed (cond bad (shutdown_mode (Some old) (Some BadRow)) (started_mode (first_stop (control_of t old).stop old new))) ≡ stop_steps (control_of t old).stop
  taken_owes old new true changes = cc
  taken_owes old new false changes = first_owes (control_of t old).stop old new

  rest_owes : (old : ℕ) (held : Bool) (pending : Option ℕ) → is_changing (rest_step k t (Some old) held pending) ≡ true → owed (rest_step k t (Some old) held pending) ≡ stop_steps (control_of t old).stop
  rest_owes old true pending changes = cc
  rest_owes old false None changes = cc
  rest_owes old false (Some i) changes = taken_owes old (module_of t i) (has_bad_row k t (module_of t i)) changes

-- a reset ends a change
no_change : (c : ModuleControl) (m : ℕ) → is_changing (started_mode (after_load c m)) ≡ true → ⊥
no_change c m = by_start c.start (asks_reset c.reset)
  where
    by_start : (start reset : Bool) → is_changing (started_mode (cond start (SoftwareStart m) (cond reset (ModuleReset m c.duration) (Full m)))) ≡ true → ⊥
    by_start true reset changes = cc
    by_start false true changes = cc
    by_start false false changes = cc

-- what a call answers is what is owed less afterwards
abbrev Passes : Capacity → Call → Socket → Type 0
Passes k c s = is_changing (after_call k c s).mode ≡ true → answered_stops c s ++ owed (after_call k c s).mode ≡ owed s.mode

module _ (k : Capacity) (t : Tables) (old new : ℕ) (held : Bool) (pending : Option ℕ) where
  abbrev in_hardware : Level → Bool → Socket
  in_hardware l is_last = record { mode = Active (HardwareStop (change old new is_last)) held pending; level = l; tables = t }

  abbrev in_software : Level → Bool → Socket
  in_software l is_last = record { mode = Active (SoftwareStop (change old new is_last)) held pending; level = l; tables = t }

  from_hardware : (c : Call) (l : Level) (is_last : Bool) → Passes k c (in_hardware l is_last)
  from_hardware stepping Low is_last changes = refl
  from_hardware stepping High true changes = refl
  from_hardware stepping High false changes = refl
  from_hardware (writing (write.Control command.Shutdown)) l is_last changes = refl
  from_hardware (writing (write.Control command.Restart)) l is_last changes = refl
  from_hardware (writing (write.Control (command.RestartWithStatus m))) l is_last changes = refl
  from_hardware (writing (write.Control command.Proceed)) l is_last changes = refl
  from_hardware (writing (write.Control (command.UserControl b))) l is_last changes = refl
  from_hardware (writing w) l is_last changes = refl
  from_hardware (acknowledging v) l is_last changes = refl
  from_hardware finishing l is_last changes = refl
  from_hardware (failing e) l is_last changes = refl
  from_hardware resetting l is_last changes = absurd (no_change (control_of t old) old changes)

  from_software : (c : Call) (l : Level) (is_last : Bool) → Passes k c (in_software l is_last)
  from_software stepping Low is_last changes = refl
  from_software stepping High is_last changes = refl
  from_software (writing (write.Control command.Shutdown)) l is_last changes = refl
  from_software (writing (write.Control command.Restart)) l is_last changes = refl
  from_software (writing (write.Control (command.RestartWithStatus m))) l is_last changes = refl
  from_software (writing (write.Control command.Proceed)) l true changes = refl
  from_software (writing (write.Control command.Proceed)) l false changes = refl
  from_software (writing (write.Control (command.UserControl b))) l is_last changes = refl
  from_software (writing w) l is_last changes = refl
  from_software (acknowledging v) l is_last changes = refl
  from_software finishing l is_last changes = refl
  from_software (failing e) l is_last changes = refl
  from_software resetting l is_last changes = absurd (no_change (control_of t old) old changes)

passes_from : (k : Capacity) (c : Call) (l : Level) (t : Tables) (m : Mode) → is_stopping m ≡ true → Passes k c (record { mode = m; level = l; tables = t })
passes_from k c l t (Active (HardwareStop g) held pending) stops = from_hardware k t g.old g.new held pending c l g.is_last
passes_from k c l t (Active (SoftwareStop g) held pending) stops = from_software k t g.old g.new held pending c l g.is_last
passes_from k c l t m stops = cc

passes : (k : Capacity) (c : Call) (s : Socket) → is_stopping s.mode ≡ true → Passes k c s
passes k c s = passes_from k c s.level s.tables s.mode

-- the steps of a socket that was full, if it begins a change
begins : (k : Capacity) (l : Level) (t : Tables) (m : Mode) (old : ℕ) (held : Bool) (pending : Option ℕ) → m ≡ Active (Full old) held pending → is_changing (mode_step k t l m) ≡ true → owed (mode_step k t l m) ≡ stop_steps (control_of t old).stop
begins k l t m old held pending was =
    subst (λ (x : Mode). is_changing (mode_step k t l x) ≡ true → owed (mode_step k t l x) ≡ stop_steps (control_of t old).stop) (sym was) (rest_owes k t old held pending)

-- a socket that stops is on its way
stopping_changes : (m : Mode) → is_stopping m ≡ true → is_changing m ≡ true
stopping_changes (Active (HardwareStop c) held pending) stops = refl
stopping_changes (Active (SoftwareStop c) held pending) stops = refl
stopping_changes m stops = cc

-- all through a change, what was answered and what is owed are the steps of the kind
kept : {k : Capacity} {kind : StopKind} {steps : List Stop} {s : Socket} → Answered k kind steps s → is_changing s.mode ≡ true → steps ++ owed s.mode ≡ stop_steps kind
kept {k} (begun s old held pending was changes kind_is) now = begins k s.level s.tables s.mode old held pending was now ∙ ap stop_steps kind_is
kept {k} (called {steps} {s} c before stops) now =
    append_assoc steps (answered_stops c s) (owed (after_call k c s).mode) ∙ ap (λ (rest : List Stop). steps ++ rest) (passes k c s stops now) ∙ kept before (stopping_changes s.mode stops)

order_of : (kind : StopKind) (steps : List Stop) (m : Mode) → (is_changing m ≡ true → steps ++ owed m ≡ stop_steps kind) → InOrder kind steps m
order_of kind steps m all = record { loads = loads_of m all; stops = stops_of m all }
  where
    loads_of : (m : Mode) → (is_changing m ≡ true → steps ++ owed m ≡ stop_steps kind) → is_loading m ≡ true → steps ≡ stop_steps kind
    loads_of (Active (Loading n) held pending) all loads = sym (append-nil steps) ∙ all refl
    loads_of m all loads = cc

    some_owed : (b : Bool) (this other : Stop) → owed_from b this other ≢ []
    some_owed true this other = λ none. cc
    some_owed false this other = λ none. cc

    stops_of : (m : Mode) → (is_changing m ≡ true → steps ++ owed m ≡ stop_steps kind) → is_stopping m ≡ true → (rest : List Stop) × (rest ≢ []) × (steps ++ rest ≡ stop_steps kind)
    stops_of (Active (HardwareStop c) held pending) all stops = (owed_from c.is_last hardware software, some_owed c.is_last hardware software, all refl)
    stops_of (Active (SoftwareStop c) held pending) all stops = (owed_from c.is_last software hardware, some_owed c.is_last software hardware, all refl)
    stops_of m all stops = cc

pub in_order : (k : Capacity) → StopSteps k
in_order k kind steps s run = order_of kind steps s.mode (kept run)
