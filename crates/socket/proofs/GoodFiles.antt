-- A socket waits for a good file alone.
use Rattle.std.proofs.Common.{◌≡◌, ℕ, ◌-◌, Bool, true, false, cond, ◌||◌, Some, None, Option, IfSome, refl, eqb, leb, nat_lt}
use Rattle.std.specs.Option.{option_map, unwrap_or}
use Rattle.socket.specs.declared.capacity.Capacity.{Capacity}
use Rattle.socket.specs.declared.command.Command.TheVariants as command
use Rattle.socket.specs.declared.control.ModuleControl.{ModuleControl}
use Rattle.socket.specs.declared.control.StopKind.{StopKind}
use Rattle.socket.specs.declared.control.StopKind.TheVariants.{NoStop, Hardware, HardwareThenSoftware, SoftwareThenHardware}
use Rattle.socket.specs.declared.level.Level.{Level}
use Rattle.socket.specs.declared.level.Level.TheVariants.{Low, High}
use Rattle.socket.specs.declared.mode.Error.{Error}
use Rattle.socket.specs.declared.mode.Error.TheVariants.{BadRow}
use Rattle.socket.specs.declared.mode.Mode.{Mode}
use Rattle.socket.specs.declared.mode.Mode.TheVariants.{Active, Shutdown}
use Rattle.socket.specs.declared.socket.Socket.{Socket}
use Rattle.socket.specs.declared.state.State.{State}
use Rattle.socket.specs.declared.state.State.TheVariants.{Empty, HardwareStop, SoftwareStop, Loading, SoftwareStart, ModuleReset, Full}
use Rattle.socket.specs.declared.tables.Tables.{Tables}
use Rattle.socket.specs.declared.write.Write.{Write}
use Rattle.socket.specs.declared.write.Write.TheVariants as write
use Rattle.socket.specs.Calls.{Call, Reached, acknowledging, after_call, called, failing, finishing, made, resetting, stepping, writing}
use Rattle.socket.specs.Change.{after_load, after_start, change, first_stop}
use Rattle.socket.specs.Control.{asks_reset}
use Rattle.socket.specs.Laws.{AwaitsGoodFile}
use Rattle.socket.specs.Mode.{shutdown_mode, started_mode}
use Rattle.socket.specs.Socket.{with_mode}
use Rattle.socket.specs.Steps.{awaited_module, failed_socket, loaded_socket, module_file, replacing_state, rest_step, state_reset, state_step}
use Rattle.socket.specs.Tables.{control_of, file_of, has_bad_row, is_bad_file, module_of, row_of}
use Rattle.socket.specs.Writes.{after_write}

-- the module that replaces another, from the take-up on
abbrev new_module : State → Option ℕ
new_module (HardwareStop c) = Some c.new
new_module (SoftwareStop c) = Some c.new
new_module (Loading m) = Some m
new_module st = None

abbrev coming : Mode → Option ℕ
coming (Active st held pending) = new_module st
coming (Shutdown loaded e outputs) = None

-- its row is not bad
abbrev Good : Capacity → Tables → Mode → Type 0
Good k t m = IfSome (coming m) (λ n. has_bad_row k t n ≡ false)

abbrev IsGood : Capacity → Socket → Type 0
IsGood k s = Good k s.tables s.mode

-- what starts a module replaces none
starts : (k : Capacity) (t : Tables) (held : Bool) (pending : Option ℕ) (c : ModuleControl) (m : ℕ) → Good k t (Active (after_start c m) held pending)
starts k t held pending c m = by_reset (asks_reset c.reset)
  where
    by_reset : (reset : Bool) → Good k t (Active (cond reset (ModuleReset m c.duration) (Full m)) held pending)
    by_reset true = tt
    by_reset false = tt

loads : (k : Capacity) (t : Tables) (held : Bool) (pending : Option ℕ) (c : ModuleControl) (m : ℕ) → Good k t (Active (after_load c m) held pending)
loads k t held pending c m = by_start c.start
  where
    by_start : (start : Bool) → Good k t (Active (cond start (SoftwareStart m) (after_start c m)) held pending)
    by_start true = tt
    by_start false = starts k t held pending c m

module _ (k : Capacity) (t : Tables) where
  -- a change begins with a row that is not bad
  begins : (kind : StopKind) (old m : ℕ) → has_bad_row k t m ≡ false → Good k t (started_mode (first_stop kind old m))
  begins NoStop old m fine = fine
  begins Hardware old m fine = fine
  begins HardwareThenSoftware old m fine = fine
  begins SoftwareThenHardware old m fine = fine

  replaces : (loaded : Option ℕ) (m : ℕ) → has_bad_row k t m ≡ false → Good k t (started_mode (replacing_state t loaded m))
  replaces None m fine = fine
  replaces (Some old) m fine = begins (control_of t old).stop old m fine

  takes : (loaded : Option ℕ) (m : ℕ) (bad : Bool) → has_bad_row k t m ≡ bad → Good k t (cond bad (shutdown_mode loaded (Some BadRow)) (started_mode (replacing_state t loaded m)))
  takes loaded m true is = tt
  takes loaded m false is = replaces loaded m is

  rests : (loaded : Option ℕ) (held : Bool) (pending : Option ℕ) → Good k t (rest_step k t loaded held pending)
  rests loaded true pending = tt
  rests None false None = tt
  rests (Some m) false None = tt
  rests loaded false (Some i) = takes loaded (module_of t i) (has_bad_row k t (module_of t i)) refl

  -- the last stop step and the others keep the new module
  stops : (new : ℕ) (held : Bool) (pending : Option ℕ) (is_last : Bool) (next : State) → has_bad_row k t new ≡ false → Good k t (Active next held pending) → Good k t (Active (cond is_last (Loading new) next) held pending)
  stops new held pending true next fine then = fine
  stops new held pending false next fine then = then

  ticks : (m left : ℕ) (held : Bool) (pending : Option ℕ) (none_left : Bool) → Good k t (Active (cond none_left (Full m) (ModuleReset m left)) held pending)
  ticks m left held pending true = tt
  ticks m left held pending false = tt

  steps : (l : Level) (st : State) (held : Bool) (pending : Option ℕ) → Good k t (Active st held pending) → Good k t (state_step k t l st held pending)
  steps l Empty held pending good = rests None held pending
  steps Low (HardwareStop c) held pending good = good
  steps High (HardwareStop c) held pending good = stops c.new held pending c.is_last (SoftwareStop (change c.old c.new true)) good good
  steps l (SoftwareStop c) held pending good = good
  steps l (Loading m) held pending good = good
  steps l (SoftwareStart m) held pending good = tt
  steps l (ModuleReset m left) held pending good = ticks m (left - 1) held pending (eqb left 0)
  steps l (Full m) held pending good = rests (Some m) held pending

  -- an active socket of these tables
  abbrev active : State → Bool → Option ℕ → Level → Socket
  active st held pending l = record { mode = Active st held pending; level = l; tables = t }

  abbrev down : Option ℕ → Option Error → ℕ → Level → Socket
  down loaded e outputs l = record { mode = Shutdown loaded e outputs; level = l; tables = t }

  proceeds : (st : State) (held : Bool) (pending : Option ℕ) (l : Level) → Good k t (Active st held pending) → IsGood k (after_write k (write.Control command.Proceed) (active st held pending l))
  proceeds Empty held pending l good = tt
  proceeds (HardwareStop c) held pending l good = good
  proceeds (SoftwareStop c) held pending l good = stops c.new held pending c.is_last (HardwareStop (change c.old c.new true)) good good
  proceeds (Loading m) held pending l good = good
  proceeds (SoftwareStart m) held pending l good = starts k t held pending (control_of t m) m
  proceeds (ModuleReset m left) held pending l good = tt
  proceeds (Full m) held pending l good = tt

  writes : (w : Write) (st : State) (held : Bool) (pending : Option ℕ) (l : Level) → Good k t (Active st held pending) → IsGood k (after_write k w (active st held pending l))
  writes (write.Control command.Shutdown) st held pending l good = good
  writes (write.Control command.Restart) st held pending l good = good
  writes (write.Control (command.RestartWithStatus m)) st held pending l good = good
  writes (write.Control command.Proceed) st held pending l good = proceeds st held pending l good
  writes (write.Control (command.UserControl b)) st held pending l good = good
  writes w st held pending l good = good

  restarts : (n : ℕ) (loaded : Option ℕ) (e : Option Error) (outputs : ℕ) (l : Level) (known : Bool) → IsGood k (unwrap_or (option_map (with_mode (down loaded e outputs l)) (cond known (Some (started_mode (Full n))) None)) (down loaded e outputs l))
  restarts n loaded e outputs l true = tt
  restarts n loaded e outputs l false = tt

  -- in shutdown no module is coming, before and after a write
  writes_down : (w : Write) (loaded : Option ℕ) (e : Option Error) (outputs : ℕ) (l : Level) → IsGood k (after_write k w (down loaded e outputs l))
  writes_down (write.Control command.Shutdown) loaded e outputs l = tt
  writes_down (write.Control command.Restart) None e outputs l = tt
  writes_down (write.Control command.Restart) (Some m) e outputs l = tt
  writes_down (write.Control (command.RestartWithStatus None)) loaded e outputs l = tt
  writes_down (write.Control (command.RestartWithStatus (Some n))) loaded e outputs l = restarts n loaded e outputs l (nat_lt n k.modules)
  writes_down (write.Control command.Proceed) loaded e outputs l = tt
  writes_down (write.Control (command.UserControl b)) loaded e outputs l = tt
  writes_down w loaded e outputs l = tt

  finishes : (st : State) (held : Bool) (pending : Option ℕ) (l : Level) → Good k t (Active st held pending) → IsGood k (loaded_socket (active st held pending l))
  finishes Empty held pending l good = good
  finishes (HardwareStop c) held pending l good = good
  finishes (SoftwareStop c) held pending l good = good
  finishes (Loading m) held pending l good = loads k t held pending (control_of t m) m
  finishes (SoftwareStart m) held pending l good = good
  finishes (ModuleReset m left) held pending l good = good
  finishes (Full m) held pending l good = good

  fails : (e : Error) (st : State) (held : Bool) (pending : Option ℕ) (l : Level) → Good k t (Active st held pending) → IsGood k (failed_socket e (active st held pending l))
  fails e Empty held pending l good = good
  fails e (HardwareStop c) held pending l good = good
  fails e (SoftwareStop c) held pending l good = good
  fails e (Loading m) held pending l good = tt
  fails e (SoftwareStart m) held pending l good = good
  fails e (ModuleReset m left) held pending l good = good
  fails e (Full m) held pending l good = good

  resets : (st : State) → Good k t (started_mode (state_reset t st))
  resets Empty = tt
  resets (HardwareStop c) = loads k t false None (control_of t c.old) c.old
  resets (SoftwareStop c) = loads k t false None (control_of t c.old) c.old
  resets (Loading m) = tt
  resets (SoftwareStart m) = loads k t false None (control_of t m) m
  resets (ModuleReset m left) = loads k t false None (control_of t m) m
  resets (Full m) = loads k t false None (control_of t m) m

  calls : (c : Call) (l : Level) (m : Mode) → Good k t m → IsGood k (after_call k c (record { mode = m; level = l; tables = t }))
  calls stepping l (Active st held pending) good = steps l st held pending good
  calls (writing w) l (Active st held pending) good = writes w st held pending l good
  calls (acknowledging v) l (Active st held pending) good = good
  calls finishing l (Active st held pending) good = finishes st held pending l good
  calls (failing e) l (Active st held pending) good = fails e st held pending l good
  calls resetting l (Active st held pending) good = resets st
  calls stepping l (Shutdown loaded e outputs) good = tt
  calls (writing w) l (Shutdown loaded e outputs) good = writes_down w loaded e outputs l
  calls (acknowledging v) l (Shutdown loaded e outputs) good = tt
  calls finishing l (Shutdown loaded e outputs) good = tt
  calls (failing x) l (Shutdown loaded e outputs) good = tt
  calls resetting l (Shutdown loaded e outputs) good = tt

-- every socket that is reached waits for a module whose row is not bad
reached : {k : Capacity} {s : Socket} → Reached k s → IsGood k s
reached made = tt
reached {k} (called {s} c run) = calls k s.tables c s.level s.mode (reached run)

-- a row that is not bad has a good file
third_false : (a b c : Bool) → a || (b || c) ≡ false → c ≡ false
third_false true b c none = cc
third_false false true c none = cc
third_false false false c none = none

awaits : (k : Capacity) (t : Tables) (m : Mode) → Good k t m → IfSome (module_file t (awaited_module m)) (λ f. is_bad_file f ≡ false)
awaits k t (Active Empty held pending) good = tt
awaits k t (Active (HardwareStop c) held pending) good = tt
awaits k t (Active (SoftwareStop c) held pending) good = tt
awaits k t (Active (Loading m) held pending) good = third_false (leb k.modules m) (leb k.modules (row_of t m)) (is_bad_file (file_of t (row_of t m))) good
awaits k t (Active (SoftwareStart m) held pending) good = tt
awaits k t (Active (ModuleReset m left) held pending) good = tt
awaits k t (Active (Full m) held pending) good = tt
awaits k t (Shutdown loaded e outputs) good = tt

pub awaits_good : (k : Capacity) (s : Socket) → AwaitsGoodFile k s
awaits_good k s run = awaits k s.tables s.mode (reached run)
