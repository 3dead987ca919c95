-- Each call keeps, of each socket, how far it has come from its old module to the new one.
use Rattle.std.proofs.Common.{◌≡◌, ℕ, ◌<◌, Bool, true, false, cond, not, ◌&&◌, List, [], ◌∷◌, ◌++◌, length, map, get_or, eqb, nat_lt, Option, Some, None, Result, Ok, Err, refl, sym, ap, subst, ◌∙◌, append-nil, arith}
use Rattle.std.proofs.lemmas.Bool.Decides.{nat_tests}
use Rattle.std.proofs.lemmas.List.{get_or-map, get_or-replicate, length-map, length-replicate}
use Rattle.std.specs.Option.{option_map}
use Rattle.library.specs.Fault.{Cell}
use Rattle.port.specs.Meaning.{Meaning}
use Rattle.socket.specs.declared.capacity.Capacity.{Capacity}
use Rattle.socket.specs.declared.level.Level.{Level}
use Rattle.socket.specs.declared.mode.Error.{Error}
use Rattle.socket.specs.declared.mode.Error.TheVariants as error
use Rattle.socket.specs.declared.register.Register.{Register}
use Rattle.socket.specs.declared.socket.Socket.{Socket}
use Rattle.socket.specs.declared.write.Write.{Write}
use Rattle.socket.specs.Calls.{stepping, writing}
use Rattle.socket.specs.Socket.{fresh_socket, with_level}
use Rattle.socket.specs.Steps.{after_step, reset_socket}
use Rattle.socket.specs.Stops.{Stop, answered_stops, is_changing, is_loading}
use Rattle.socket.specs.Writes.{after_write}
use Rattle.manager.specs.declared.cabinet.Cabinet.{Cabinet}
use Rattle.manager.specs.declared.call.Call.{Call}
use Rattle.manager.specs.declared.call.Call.TheVariants as call
use Rattle.manager.specs.declared.call.Reply.{Reply}
use Rattle.manager.specs.declared.call.Reply.TheVariants as reply
use Rattle.manager.specs.declared.grant.Grant.{Grant}
use Rattle.manager.specs.declared.refusal.Refusal.{Refusal}
use Rattle.manager.specs.declared.refusal.Refusal.TheVariants.{CeilingReached}
use Rattle.manager.specs.declared.tick.Tick.{Tick}
use Rattle.manager.specs.Cabinet.{accepted_tick, after_end, load_error, with_sockets}
use Rattle.manager.specs.Journal.{Entry, Journal, Run, called, event_of, hands, made, made_cabinet}
use Rattle.manager.specs.Law.{GrantsStopped}
use Rattle.manager.specs.Outcome.{Happens, Outcome, level_outcome, outcome, outputs_outcome, quiet, read_outcome, reset_outcome, service_outcome, write_outcome}
use Rattle.manager.specs.Requests.{known_socket, level_request, register_of, socket_of, write_request}
use Rattle.manager.specs.Sockets.{ended_socket, with_change}
use Rattle.manager.specs.StopSteps.{answered_steps, old_steps, owed_steps, written_stops}
use Rattle.manager.proofs.Numbers.{same_number}
use Rattle.manager.proofs.SocketOf.{get_or-with_change, next_loads}
use Rattle.manager.proofs.Stage.{Stage, after_level, after_load_end, after_quiet_step, after_reset, after_take_up_step, after_writing, at_rest}
use Rattle.manager.proofs.Ways.{Way, barring, counting, failing, finishing, goes, granting, idle, stepped_cabinet}

module _ (s : ℕ) (owes : Option (List Stop)) where
  -- what socket s of a cabinet owes, and has answered
  abbrev Owes : List Stop → Cabinet → Type 0
  Owes steps c = Stage c.capacity owes steps (socket_of c s)

  -- one socket is changed
  changed : (c : Cabinet) (steps : List Stop) (f : Socket → Socket) (t : ℕ) → s < length c.sockets.items → Stage c.capacity owes steps (cond (eqb t s) (f (socket_of c s)) (socket_of c s)) → Owes steps (with_sockets c (with_change f t c.sockets.items))
  changed c steps f t known stage = subst (λ (x : Socket). Stage c.capacity owes steps x) (sym (get_or-with_change f t s c.sockets.items (fresh_socket c.capacity) known)) stage

  -- each socket is changed
  mapped : (c : Cabinet) (steps : List Stop) (f : Socket → Socket) → s < length c.sockets.items → Stage c.capacity owes steps (f (socket_of c s)) → Owes steps (with_sockets c (map f c.sockets.items))
  mapped c steps f known stage = subst (λ (x : Socket). Stage c.capacity owes steps x) (sym (get_or-map f c.sockets.items s (fresh_socket c.capacity) (fresh_socket c.capacity) known)) stage

  -- the load of one socket ends
  ended : (c : Cabinet) (steps : List Stop) (t : ℕ) (o : Result Unit Error) → s < length c.sockets.items → Owes steps c → Owes steps (after_end c t o)
  ended c steps t o known stage = changed c steps (ended_socket o) t known (by (eqb t s))
    where
      by : (here : Bool) → Stage c.capacity owes steps (cond here (ended_socket o (socket_of c s)) (socket_of c s))
      by true = after_load_end c.capacity owes steps (socket_of c s) stage o
      by false = stage

  module _ (steps : List Stop) (c : Cabinet) (known : s < length c.sockets.items) (stage : Owes steps c) where
    -- socket s stands as before, and loads if it is granted the port
    goes_on : {a : Tick} {d : Cabinet} → Way c a d → Stage d.capacity owes steps (socket_of d s) × (hands s (event_of (Ok (reply.Ticked a))) ≡ true → is_loading (socket_of d s).mode ≡ true)
    goes_on idle = (stage, λ handed. cc)
    goes_on (granting t is) = (stage, λ handed. let here : t ≡ s = grind (arith, nat_tests) in subst (λ (n : ℕ). is_loading (socket_of c n).mode ≡ true) here (next_loads c.last c.sockets.items t (fresh_socket c.capacity) is))
    goes_on (barring t) = (ended c steps t (Err error.Port) known stage, λ handed. cc)
    goes_on (counting g) = (stage, λ handed. cc)
    goes_on (finishing g) = (ended c steps g.socket (Ok tt) known stage, λ handed. cc)
    goes_on (failing g cause) = (ended c steps g.socket (Err (load_error cause)) known stage, λ handed. cc)

-- a call as a run tells it
abbrev pub entry : Call → Cabinet → Outcome → Entry
entry call c o = record { call = call; reply = o.reply; before = c; after = o.cabinet }

module _ (s : ℕ) (j : Journal) where
  -- socket s after a run
  abbrev Staged : Cabinet → Type 0
  Staged c = Stage c.capacity (owed_steps s j) (answered_steps s j) (socket_of c s)

  -- socket s after one call more, which loads if it is granted the port
  abbrev Entered : Entry → Type 0
  Entered e = Stage e.after.capacity (owed_steps s (e ∷ j)) (answered_steps s (e ∷ j)) (socket_of e.after s) × (hands s (event_of e.reply) ≡ true → is_loading (socket_of e.after s).mode ≡ true)

  module _ (c : Cabinet) (known : s < length c.sockets.items) (stage : Staged c) where
    nothing_more : (x : Socket) → Stage c.capacity (owed_steps s j) (answered_steps s j) x → Stage c.capacity (owed_steps s j) (answered_steps s j ++ []) x
    nothing_more x before = subst (λ (steps : List Stop). Stage c.capacity (owed_steps s j) steps x) (sym (append-nil (answered_steps s j))) before

    abbrev Written : ℕ → Result Write Refusal → Socket → Type 0
    Written t q x = Stage c.capacity (owed_steps s j) (answered_steps s j ++ cond (eqb t s) (written_stops (socket_of c s) q) []) x

    writes : (t bank select w : ℕ) (q : Result Write Refusal) → write_request c t bank select w ≡ q → Entered (entry (call.Write t bank select w) c (write_outcome c t q))
    writes t bank select w (Ok v) is = (subst (λ (r : Result Write Refusal). Written t r (get_or (with_change (after_write c.capacity v) t c.sockets.items) s (fresh_socket c.capacity))) (sym is) (changed s (owed_steps s j) c (answered_steps s j ++ cond (eqb t s) (answered_stops (writing v) (socket_of c s)) []) (after_write c.capacity v) t known (by (eqb t s))), λ handed. cc)
      where
        by : (here : Bool) → Stage c.capacity (owed_steps s j) (answered_steps s j ++ cond here (answered_stops (writing v) (socket_of c s)) []) (cond here (after_write c.capacity v (socket_of c s)) (socket_of c s))
        by true = after_writing c.capacity (owed_steps s j) (answered_steps s j) (socket_of c s) stage v
        by false = nothing_more (socket_of c s) stage
    writes t bank select w (Err r) is = (subst (λ (q : Result Write Refusal). Written t q (socket_of c s)) (sym is) (by (eqb t s)), λ handed. cc)
      where
        by : (here : Bool) → Stage c.capacity (owed_steps s j) (answered_steps s j ++ cond here [] []) (socket_of c s)
        by true = nothing_more (socket_of c s) stage
        by false = nothing_more (socket_of c s) stage

    reads : (t bank select : ℕ) (q : Result Register Refusal) → Entered (entry (call.Read t bank select) c (read_outcome c t q))
    reads t bank select (Ok r) = (nothing_more (socket_of c s) stage, λ handed. cc)
    reads t bank select (Err r) = (nothing_more (socket_of c s) stage, λ handed. cc)

    acknowledges : (t l : ℕ) (q : Result Level Refusal) → Entered (entry (call.Acknowledge t l) c (level_outcome c t q))
    acknowledges t l (Ok v) = (changed s (owed_steps s j) c (answered_steps s j ++ []) (λ x. with_level x v) t known (by (eqb t s)), λ handed. cc)
      where
        by : (here : Bool) → Stage c.capacity (owed_steps s j) (answered_steps s j ++ []) (cond here (with_level (socket_of c s) v) (socket_of c s))
        by true = nothing_more (with_level (socket_of c s) v) (after_level c.capacity (owed_steps s j) (answered_steps s j) (socket_of c s) stage v)
        by false = nothing_more (socket_of c s) stage
    acknowledges t l (Err r) = (nothing_more (socket_of c s) stage, λ handed. cc)

    shows : (t : ℕ) (q : Result Unit Refusal) → Entered (entry (call.Outputs t) c (outputs_outcome c t q))
    shows t (Ok o) = (nothing_more (socket_of c s) stage, λ handed. cc)
    shows t (Err r) = (nothing_more (socket_of c s) stage, λ handed. cc)

    -- the first part of a tick
    stepped : (up : Bool) → not (is_changing (socket_of c s).mode) && is_changing (after_step c.capacity (socket_of c s)).mode ≡ up → Stage c.capacity (cond up (Some (old_steps (socket_of c s).tables (socket_of c s).mode)) (owed_steps s j)) (cond up [] (answered_steps s j ++ answered_stops stepping (socket_of c s))) (after_step c.capacity (socket_of c s))
    stepped true is = after_take_up_step c.capacity (socket_of c s) is
    stepped false is = after_quiet_step c.capacity (owed_steps s j) (answered_steps s j) (socket_of c s) stage is

    ticks : (cells : ℕ → Cell) (p : Meaning) (accepted : Bool) → Entered (entry call.Tick c (cond accepted (service_outcome (accepted_tick c cells p)) (quiet (Err CeilingReached) c)))
    ticks cells p true =
        let up : Bool = not (is_changing (socket_of c s).mode) && is_changing (after_step c.capacity (socket_of c s)).mode in
        let owes : Option (List Stop) = cond up (Some (old_steps (socket_of c s).tables (socket_of c s).mode)) (owed_steps s j) in
        let steps : List Stop = cond up [] (answered_steps s j ++ answered_stops stepping (socket_of c s)) in
        let there : s < length (map (after_step c.capacity) c.sockets.items) = omega (arith, length-map {A = Socket} {B = Socket}, known) in
        goes_on s owes steps (stepped_cabinet c) there (mapped s owes c steps (after_step c.capacity) known (stepped up refl)) (goes (stepped_cabinet c) cells p c.grant)
    ticks cells p false = (nothing_more (socket_of c s) stage, λ handed. cc)

    resets : Entered (entry call.Reset c (reset_outcome c))
    resets = (mapped s (owed_steps s j) c (answered_steps s j ++ []) reset_socket known (nothing_more (reset_socket (socket_of c s)) (after_reset c.capacity (owed_steps s j) (answered_steps s j) (socket_of c s) stage)), λ handed. absurd (hands_none c.grant handed))
      where
        hands_none : (g : Option Grant) → hands s (event_of (Ok (reply.Reset (option_map (λ x. x.socket) g)))) ≡ true → ⊥
        hands_none None handed = cc
        hands_none (Some x) handed = cc

    -- whatever was called
    entered : (asked : Call) (cells : ℕ → Cell) (p : Meaning) → Entered (entry asked c (outcome asked c cells p))
    entered (call.Write t bank select w) cells p = writes t bank select w (write_request c t bank select w) refl
    entered (call.Read t bank select) cells p = reads t bank select (register_of c t bank select)
    entered (call.Acknowledge t l) cells p = acknowledges t l (level_request c t l)
    entered (call.Outputs t) cells p = shows t (known_socket c t)
    entered call.Tick cells p = ticks cells p (nat_lt c.ticks c.ceiling)
    entered call.Reset cells p = resets

  -- the same of what happened
  happened : {asked : Call} {c d : Cabinet} {cells : ℕ → Cell} {p q : Meaning} {r : Result Reply Refusal} → Happens cells asked c p r d q → s < length c.sockets.items → Staged c → Entered (record { call = asked; reply = r; before = c; after = d })
  happened {asked} {c} {cells} {p} happens known stage = rw (happens.reply, happens.cabinet) (entered c known stage asked cells p)

-- at the making each socket is in shutdown
made_stage : (k : Capacity) (n ceiling s : ℕ) → s < n → Staged s [] (made_cabinet k n ceiling)
made_stage k n ceiling s known = at_rest k None [] (socket_of (made_cabinet k n ceiling) s) (ap (λ (x : Socket). is_changing x.mode) (get_or-replicate n s (fresh_socket k) (fresh_socket k) known))

-- after any run
pub stages : {cells : ℕ → Cell} {p₀ : Meaning} {j : Journal} {c : Cabinet} {p : Meaning} → Run cells p₀ j c p → (s : ℕ) → s < length c.sockets.items → Staged s j c × GrantsStopped s j
stages (made k n ceiling shut) s known = (made_stage k n ceiling s (omega (arith, length-replicate {A = Socket}, known)), tt)
stages {cells} (called {j} {c} {d} {p} {q} {r} asked fits run happens) s known =
    let count : length d.sockets.items ≡ length c.sockets.items = ap (λ (x : Cabinet). length x.sockets.items) happens.cabinet ∙ same_number asked c cells p in
    let there : s < length c.sockets.items = omega arith in
    let before : Staged s j c × GrantsStopped s j = stages run s there in
    let now : Entered s j (record { call = asked; reply = r; before = c; after = d }) = happened s j happens there before.0 in
    (now.0, ((λ handed. now.0.loading (now.1 handed)), before.1))

-- each grant goes to a socket whose old module's stop steps have each been answered
pub grants_stopped : {cells : ℕ → Cell} {p₀ : Meaning} {j : Journal} {c : Cabinet} {p : Meaning} → Run cells p₀ j c p → (s : ℕ) → s < length c.sockets.items → GrantsStopped s j
grants_stopped run s known = (stages run s known).1
