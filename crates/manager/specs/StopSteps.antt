-- The stop steps of a socket's old module, owed and answered in a run. Assumes nothing.
use Rattle.std.specs.Prelude.{ℕ, Bool, true, false, List, [], ◌∷◌, ◌++◌, Option, Some, None, Result, Ok, Err, if◌then◌else◌, not, ◌&&◌, ◌==◌}
use Rattle.socket.specs.declared.mode.Mode.{Mode}
use Rattle.socket.specs.declared.mode.Mode.TheVariants.{Active}
use Rattle.socket.specs.declared.socket.Socket.{Socket}
use Rattle.socket.specs.declared.state.State.TheVariants.{Full}
use Rattle.socket.specs.declared.tables.Tables.{Tables}
use Rattle.socket.specs.declared.write.Write.{Write}
use Rattle.socket.specs.Calls.{stepping, writing}
use Rattle.socket.specs.Steps.{after_step}
use Rattle.socket.specs.Stops.{Stop, answered_stops, is_changing, stop_steps}
use Rattle.socket.specs.Tables.{control_of}
use Rattle.manager.specs.declared.cabinet.Cabinet.{Cabinet}
use Rattle.manager.specs.declared.call.Call.{Call}
use Rattle.manager.specs.declared.call.Call.TheVariants as call
use Rattle.manager.specs.declared.call.Reply.{Reply}
use Rattle.manager.specs.declared.call.Reply.TheVariants as reply
use Rattle.manager.specs.declared.refusal.Refusal.{Refusal}
use Rattle.manager.specs.Journal.{Entry, Journal}
use Rattle.manager.specs.Requests.{socket_of, write_request}

-- whether a reply is of a tick that was accepted
abbrev pub is_tick : Result Reply Refusal → Bool
is_tick (Ok (reply.Ticked t)) = true
is_tick r = false

-- the stop steps of what a socket is full with; an empty one has none
abbrev pub old_steps : Tables → Mode → List Stop
old_steps t (Active (Full m) held pending) = stop_steps (control_of t m).stop
old_steps t m = []

-- whether socket s takes up a trigger in a tick: it was not on the way to another module, and its step sets it on the way
abbrev pub takes_up : ℕ → Entry → Bool
takes_up s e = is_tick e.reply && (not (is_changing (socket_of e.before s).mode) && is_changing (after_step e.before.capacity (socket_of e.before s)).mode)

-- the stop steps that a write to a socket answers, if it is taken
abbrev pub written_stops : Socket → Result Write Refusal → List Stop
written_stops x (Ok w) = answered_stops (writing w) x
written_stops x (Err r) = []

-- the stop steps of socket s that a call answers: a tick that finds level 1 in the hardware stop, and Proceed in the software stop
abbrev pub stops_by : ℕ → Cabinet → Call → Bool → List Stop
stops_by s c call.Tick accepted = if accepted then answered_stops stepping (socket_of c s) else []
stops_by s c (call.Write t bank select w) accepted = if t == s then written_stops (socket_of c s) (write_request c t bank select w) else []
stops_by s c other accepted = []

-- the stop steps that socket s owes since its last take-up: those of its old module's kind then
abbrev pub owed_steps : ℕ → Journal → Option (List Stop)
owed_steps s [] = None
owed_steps s (e ∷ j) = if takes_up s e then Some (old_steps (socket_of e.before s).tables (socket_of e.before s).mode) else owed_steps s j

-- the stop steps answered since its last take-up, in order
abbrev pub answered_steps : ℕ → Journal → List Stop
answered_steps s [] = []
answered_steps s (e ∷ j) = if takes_up s e then [] else answered_steps s j ++ stops_by s e.before e.call (is_tick e.reply)
