-- How far one socket has come from its old module to the new one.
use Rattle.std.proofs.Common.{◌≡◌, ℕ, ◌-◌, Bool, true, false, cond, List, [], ◌++◌, Some, None, Option, refl, sym, ap, subst, ◌∙◌, append-nil, eqb, nat_lt, arith, not, ◌&&◌, Result, Ok, Err}
use Rattle.std.proofs.lemmas.Bool.Decides.{nat_tests}
use Rattle.std.specs.Option.{option_map, unwrap_or}
use Rattle.socket.specs.declared.capacity.Capacity.{Capacity}
use Rattle.socket.specs.declared.command.Command.TheVariants as command
use Rattle.socket.specs.declared.control.ModuleControl.{ModuleControl}
use Rattle.socket.specs.declared.control.StopKind.{StopKind}
use Rattle.socket.specs.declared.level.Level.{Level}
use Rattle.socket.specs.declared.level.Level.TheVariants.{Low, High}
use Rattle.socket.specs.declared.mode.Error.{Error}
use Rattle.socket.specs.declared.mode.Mode.{Mode}
use Rattle.socket.specs.declared.mode.Mode.TheVariants.{Active, Shutdown}
use Rattle.socket.specs.declared.socket.Socket.{Socket}
use Rattle.socket.specs.declared.state.State.{State}
use Rattle.socket.specs.declared.state.State.TheVariants.{Empty, HardwareStop, SoftwareStop, Loading, SoftwareStart, ModuleReset, Full}
use Rattle.socket.specs.declared.tables.Tables.{Tables}
use Rattle.socket.specs.declared.write.Write.{Write}
use Rattle.socket.specs.declared.write.Write.TheVariants as write
use Rattle.socket.specs.Calls.{Call, acknowledging, after_call, failing, finishing, resetting, stepping, writing}
use Rattle.socket.specs.Change.{after_load, after_start}
use Rattle.socket.specs.Mode.{started_mode}
use Rattle.socket.specs.Socket.{with_level, with_mode}
use Rattle.socket.specs.Steps.{after_step, reset_socket, rest_step}
use Rattle.socket.specs.Stops.{Answered, Stop, answered_by_step, answered_stops, begun, called, is_changing, is_loading, is_stopping, stop_steps}
use Rattle.socket.specs.Tables.{control_of}
use Rattle.socket.specs.Writes.{after_write}
use Rattle.socket.proofs.StopLemmas.{in_order}
use Rattle.manager.specs.Sockets.{ended_socket}
use Rattle.manager.specs.StopSteps.{old_steps}

-- What a socket owes since its take-up, and has answered, while it is on its way.
pub record Stage (k : Capacity) (owes : Option (List Stop)) (steps : List Stop) (x : Socket) : Type 0 where
  pub stopping : is_stopping x.mode ≡ true → (kind : StopKind) × (owes ≡ Some (stop_steps kind)) × Answered k kind steps x
  pub loading : is_loading x.mode ≡ true → owes ≡ Some steps

not_stopping : (m : Mode) → is_changing m ≡ false → is_stopping m ≡ false
not_stopping (Active (HardwareStop c) held pending) rests = cc
not_stopping (Active (SoftwareStop c) held pending) rests = cc
not_stopping m rests = refl

-- a socket that is not on its way
pub at_rest : (k : Capacity) (owes : Option (List Stop)) (steps : List Stop) (x : Socket) → is_changing x.mode ≡ false → Stage k owes steps x
at_rest k owes steps x rests = record { stopping = λ now. absurd (true-not-false now (not_stopping x.mode rests)); loading = λ now. absurd (not_loading x.mode rests now) }
  where
    true-not-false : {b : Bool} → b ≡ true → b ≡ false → ⊥
    true-not-false is is_not = cc

    not_loading : (m : Mode) → is_changing m ≡ false → is_loading m ≡ true → ⊥
    not_loading (Active (Loading n) held pending) rests now = cc
    not_loading m rests now = cc

module _ (k : Capacity) (t : Tables) (l : Level) where
  abbrev at : Mode → Socket
  at m = record { mode = m; level = l; tables = t }

  -- a start is no change
  loads_none : (c : ModuleControl) (m : ℕ) (held : Bool) (pending : Option ℕ) → is_changing (Active (after_load c m) held pending) ≡ false
  loads_none c m held pending = grind (arith, nat_tests)

  starts_none : (c : ModuleControl) (m : ℕ) (held : Bool) (pending : Option ℕ) → is_changing (Active (after_start c m) held pending) ≡ false
  starts_none c m held pending = grind (arith, nat_tests)

  resets_none : (m : Mode) → is_changing (after_call k resetting (at m)).mode ≡ false
  resets_none (Active Empty held pending) = refl
  resets_none (Active (HardwareStop c) held pending) = loads_none (control_of t c.old) c.old false None
  resets_none (Active (SoftwareStop c) held pending) = loads_none (control_of t c.old) c.old false None
  resets_none (Active (Loading m) held pending) = refl
  resets_none (Active (SoftwareStart m) held pending) = loads_none (control_of t m) m false None
  resets_none (Active (ModuleReset m left) held pending) = loads_none (control_of t m) m false None
  resets_none (Active (Full m) held pending) = loads_none (control_of t m) m false None
  resets_none (Shutdown loaded e outputs) = refl

  -- what is held or pending does not matter
  same_state : (st : State) (held now : Bool) (pending then : Option ℕ) → is_changing (Active st held pending) ≡ false → is_changing (Active st now then) ≡ false
  same_state Empty held now pending then rests = refl
  same_state (SoftwareStart m) held now pending then rests = refl
  same_state (ModuleReset m left) held now pending then rests = refl
  same_state (Full m) held now pending then rests = refl
  same_state st held now pending then rests = cc

  restarts_none : (n : ℕ) (loaded : Option ℕ) (e : Option Error) (outputs : ℕ) (known : Bool) → is_changing (unwrap_or (option_map (with_mode (at (Shutdown loaded e outputs))) (cond known (Some (started_mode (Full n))) None)) (at (Shutdown loaded e outputs))).mode ≡ false
  restarts_none n loaded e outputs known = grind (arith, nat_tests)

  -- no write begins a change
  writes_none : (w : Write) (m : Mode) → is_changing m ≡ false → is_changing (after_call k (writing w) (at m)).mode ≡ false
  writes_none (write.Control command.Shutdown) (Active st held pending) rests = same_state st held true pending pending rests
  writes_none (write.Control command.Proceed) (Active (SoftwareStop c) held pending) rests = cc
  writes_none (write.Control command.Proceed) (Active (SoftwareStart m) held pending) rests = starts_none (control_of t m) m held pending
  writes_none (write.Control command.Proceed) (Active st held pending) rests = rests
  writes_none (write.SwTrigger i) (Active st held pending) rests = same_state st held held pending (Some i) rests
  writes_none w (Active st held pending) rests = rests
  writes_none (write.Control command.Restart) (Shutdown None e outputs) rests = refl
  writes_none (write.Control command.Restart) (Shutdown (Some m) e outputs) rests = refl
  writes_none (write.Control (command.RestartWithStatus None)) (Shutdown loaded e outputs) rests = refl
  writes_none (write.Control (command.RestartWithStatus (Some n))) (Shutdown loaded e outputs) rests = restarts_none n loaded e outputs (nat_lt n k.modules)
  writes_none (write.Control c) (Shutdown loaded e outputs) rests = refl
  writes_none w (Shutdown loaded e outputs) rests = refl

  -- nor does the end of a load
  finishes_none : (m : Mode) → is_changing m ≡ false → is_changing (after_call k finishing (at m)).mode ≡ false
  finishes_none (Active (Loading m) held pending) rests = cc
  finishes_none m rests = rests

  fails_none : (e : Error) (m : Mode) → is_changing m ≡ false → is_changing (after_call k (failing e) (at m)).mode ≡ false
  fails_none e (Active (Loading m) held pending) rests = cc
  fails_none e m rests = rests

  module _ (owes : Option (List Stop)) where
    abbrev Now : List Stop → Socket → Type 0
    Now = Stage k owes

    -- a socket that stops its old module
    stops_on : (steps : List Stop) (x : Socket) (c : Call) → is_stopping x.mode ≡ true → Now steps x → Now (steps ++ answered_stops c x) (after_call k c x)
    stops_on steps x c stops stage = from (stage.stopping stops)
      where
        from : ((kind : StopKind) × (owes ≡ Some (stop_steps kind)) × Answered k kind steps x) → Now (steps ++ answered_stops c x) (after_call k c x)
        from s = let run : Answered k s.0 (steps ++ answered_stops c x) (after_call k c x) = called c s.2 stops in record { stopping = λ now. (s.0, s.1, run); loading = λ now. s.1 ∙ ap Some (sym ((in_order k s.0 (steps ++ answered_stops c x) (after_call k c x) run).loads now)) }

    -- a socket that has stopped, and answers nothing
    stopped : (steps more : List Stop) (y : Socket) → owes ≡ Some steps → more ≡ [] → is_stopping y.mode ≡ false → Now (steps ++ more) y
    stopped steps more y all none quiet = record { stopping = λ now. cc; loading = λ now. all ∙ ap Some (sym (append-nil steps)) ∙ ap (λ (rest : List Stop). Some (steps ++ rest)) (sym none) }

    loads_on : (steps : List Stop) (m : ℕ) (held : Bool) (pending : Option ℕ) (c : Call) → owes ≡ Some steps → Now (steps ++ answered_stops c (at (Active (Loading m) held pending))) (after_call k c (at (Active (Loading m) held pending)))
    loads_on steps m held pending stepping all = stopped steps (answered_by_step l (Active (Loading m) held pending)) (after_step k (at (Active (Loading m) held pending))) all (by_level l) refl
      where
        by_level : (v : Level) → answered_by_step v (Active (Loading m) held pending) ≡ []
        by_level Low = refl
        by_level High = refl
    loads_on steps m held pending (writing w) all = by_write w
      where
        by_write : (w : Write) → Now (steps ++ answered_stops (writing w) (at (Active (Loading m) held pending))) (after_write k w (at (Active (Loading m) held pending)))
        by_write (write.Control command.Shutdown) = stopped steps [] _ all refl refl
        by_write (write.Control command.Proceed) = stopped steps [] _ all refl refl
        by_write (write.Control c) = stopped steps [] _ all refl refl
        by_write w = stopped steps [] _ all refl refl
    loads_on steps m held pending (acknowledging v) all = stopped steps [] _ all refl refl
    loads_on steps m held pending finishing all = stopped steps [] _ all refl (not_stopping (Active (after_load (control_of t m) m) held pending) (loads_none (control_of t m) m held pending))
    loads_on steps m held pending (failing e) all = stopped steps [] _ all refl refl
    loads_on steps m held pending resetting all = stopped steps [] _ all refl refl

    -- a call that begins no change
    called_on : (steps : List Stop) (c : Call) (m : Mode) → (is_changing m ≡ false → is_changing (after_call k c (at m)).mode ≡ false) → Now steps (at m) → Now (steps ++ answered_stops c (at m)) (after_call k c (at m))
    called_on steps c (Active (HardwareStop g) held pending) none stage = stops_on steps (at (Active (HardwareStop g) held pending)) c refl stage
    called_on steps c (Active (SoftwareStop g) held pending) none stage = stops_on steps (at (Active (SoftwareStop g) held pending)) c refl stage
    called_on steps c (Active (Loading m) held pending) none stage = loads_on steps m held pending c (stage.loading refl)
    called_on steps c m none stage = at_rest k owes (steps ++ answered_stops c (at m)) (after_call k c (at m)) (none refl)

    -- a call that answers nothing and begins no change
    quiet_on : (steps : List Stop) (c : Call) (m : Mode) → answered_stops c (at m) ≡ [] → (is_changing m ≡ false → is_changing (after_call k c (at m)).mode ≡ false) → Now steps (at m) → Now steps (after_call k c (at m))
    quiet_on steps c m nothing none stage = subst (λ (more : List Stop). Now more (after_call k c (at m))) (ap (λ (rest : List Stop). steps ++ rest) nothing ∙ append-nil steps) (called_on steps c m none stage)

  -- an empty socket stops nothing
  empty_stops_none : (held : Bool) (pending : Option ℕ) → is_stopping (rest_step k t None held pending) ≡ false
  empty_stops_none true pending = refl
  empty_stops_none false None = refl
  empty_stops_none false (Some i) = grind (arith, nat_tests)

  ticks_none : (m left : ℕ) (held : Bool) (pending : Option ℕ) (none_left : Bool) → is_changing (Active (cond none_left (Full m) (ModuleReset m left)) held pending) ≡ false
  ticks_none m left held pending none_left = grind (arith, nat_tests)

  -- a take-up owes the old module's stop steps
  begins : (m : Mode) → not (is_changing m) && is_changing (after_step k (at m)).mode ≡ true → Stage k (Some (old_steps t m)) [] (after_step k (at m))
  begins (Active Empty held pending) takes = record { stopping = λ now. let none = empty_stops_none held pending in cc; loading = λ now. refl }
  begins (Active (Full old) held pending) takes =
      let run : Answered k (control_of t old).stop [] (after_step k (at (Active (Full old) held pending))) = begun (at (Active (Full old) held pending)) old held pending refl takes refl in
      record {
        stopping = λ now. ((control_of t old).stop, refl, run);
        loading = λ now. ap Some (sym ((in_order k (control_of t old).stop [] (after_step k (at (Active (Full old) held pending))) run).loads now));
      }
  begins (Active (ModuleReset m left) held pending) takes = at_rest k (Some []) [] (after_step k (at (Active (ModuleReset m left) held pending))) (ticks_none m (left - 1) held pending (eqb left 0))
  begins m takes = cc

-- Each call of a socket, by its stage before.
module _ (k : Capacity) (owes : Option (List Stop)) (steps : List Stop) (x : Socket) (stage : Stage k owes steps x) where
  pub after_writing : (w : Write) → Stage k owes (steps ++ answered_stops (writing w) x) (after_write k w x)
  after_writing w = called_on k x.tables x.level owes steps (writing w) x.mode (writes_none k x.tables x.level w x.mode) stage

  pub after_level : (v : Level) → Stage k owes steps (with_level x v)
  after_level v = quiet_on k x.tables x.level owes steps (acknowledging v) x.mode refl (λ rests. rests) stage

  pub after_reset : Stage k owes steps (reset_socket x)
  after_reset = at_rest k owes steps (reset_socket x) (resets_none k x.tables x.level x.mode)

  pub after_load_end : (o : Result Unit Error) → Stage k owes steps (ended_socket o x)
  after_load_end (Ok done) = quiet_on k x.tables x.level owes steps finishing x.mode refl (finishes_none k x.tables x.level x.mode) stage
  after_load_end (Err e) = quiet_on k x.tables x.level owes steps (failing e) x.mode refl (fails_none k x.tables x.level e x.mode) stage

  pub after_quiet_step : not (is_changing x.mode) && is_changing (after_step k x).mode ≡ false → Stage k owes (steps ++ answered_stops stepping x) (after_step k x)
  after_quiet_step no_take_up = called_on k x.tables x.level owes steps stepping x.mode (λ rests. cc) stage

pub after_take_up_step : (k : Capacity) (x : Socket) → not (is_changing x.mode) && is_changing (after_step k x).mode ≡ true → Stage k (Some (old_steps x.tables x.mode)) [] (after_step k x)
after_take_up_step k x takes = begins k x.tables x.level x.mode takes
