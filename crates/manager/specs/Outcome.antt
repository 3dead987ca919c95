-- What each call answers and makes of a cabinet, by what its library has and its port says. Assumes nothing.
use Rattle.std.specs.Prelude.{◌≡◌, ℕ, List, [], ◌∷◌, map, None, is_some, Result, Ok, Err, if◌then◌else◌, nat_lt}
use Rattle.std.specs.Option.{option_map}
use Rattle.library.specs.Fault.{Cell}
use Rattle.port.specs.Meaning.{Meaning}
use Rattle.port.specs.Steps.{Call as PortCall, closing}
use Rattle.socket.specs.declared.level.Level.{Level}
use Rattle.socket.specs.declared.register.Register.{Register}
use Rattle.socket.specs.declared.write.Write.{Write}
use Rattle.socket.specs.Socket.{with_level}
use Rattle.socket.specs.Status.{output_bits, read_word}
use Rattle.socket.specs.Steps.{reset_socket}
use Rattle.socket.specs.Writes.{after_write, write_answer}
use Rattle.manager.specs.declared.cabinet.Cabinet.{Cabinet}
use Rattle.manager.specs.declared.call.Call.{Call}
use Rattle.manager.specs.declared.call.Call.TheVariants as call
use Rattle.manager.specs.declared.call.Reply.{Reply}
use Rattle.manager.specs.declared.call.Reply.TheVariants as reply
use Rattle.manager.specs.declared.refusal.Refusal.{Refusal}
use Rattle.manager.specs.declared.refusal.Refusal.TheVariants.{CeilingReached}
use Rattle.manager.specs.Calls.{After}
use Rattle.manager.specs.Cabinet.{Service, accepted_tick, with_sockets}
use Rattle.manager.specs.Requests.{known_socket, level_request, register_of, socket_of, write_request}
use Rattle.manager.specs.Sockets.{with_change}

-- What a call does: its reply, the cabinet after it, and its calls of the port, in order.
pub record Outcome : Type 0 where
  pub reply : Result Reply Refusal
  pub cabinet : Cabinet
  pub calls : List PortCall

-- a call's result as a reply
abbrev pub replied : {T : Type 0} → (T → Reply) → Result T Refusal → Result Reply Refusal
replied f (Ok x) = Ok (f x)
replied f (Err r) = Err r

-- a call that asks the port nothing
abbrev pub quiet : Result Reply Refusal → Cabinet → Outcome
quiet r c = record { reply = r; cabinet = c; calls = [] }

-- a write, taken or ignored by its socket
abbrev pub write_outcome : Cabinet → ℕ → Result Write Refusal → Outcome
write_outcome c s (Ok w) = quiet (Ok (reply.Written (write_answer c.capacity w (socket_of c s)))) (with_sockets c (with_change (after_write c.capacity w) s c.sockets.items))
write_outcome c s (Err r) = quiet (Err r) c

abbrev pub read_outcome : Cabinet → ℕ → Result Register Refusal → Outcome
read_outcome c s (Ok r) = quiet (Ok (reply.Read (read_word (socket_of c s) r))) c
read_outcome c s (Err r) = quiet (Err r) c

abbrev pub level_outcome : Cabinet → ℕ → Result Level Refusal → Outcome
level_outcome c s (Ok l) = quiet (Ok reply.Acknowledged) (with_sockets c (with_change (λ x. with_level x l) s c.sockets.items))
level_outcome c s (Err r) = quiet (Err r) c

abbrev pub outputs_outcome : Cabinet → ℕ → Result Unit Refusal → Outcome
outputs_outcome c s (Ok known) = quiet (Ok (reply.Outputs (output_bits (socket_of c s).mode))) c
outputs_outcome c s (Err r) = quiet (Err r) c

-- a tick, by what it does with the port
abbrev pub service_outcome : Service → Outcome
service_outcome s = record { reply = Ok (reply.Ticked s.answer); cabinet = s.cabinet; calls = s.calls }

-- as many ticks as the ceiling are accepted
abbrev pub tick_outcome : Cabinet → (ℕ → Cell) → Meaning → Outcome
tick_outcome c cells p = if nat_lt c.ticks c.ceiling then service_outcome (accepted_tick c cells p) else quiet (Err CeilingReached) c

-- the port is closed where a socket has it, and each socket is reset
abbrev pub reset_outcome : Cabinet → Outcome
reset_outcome c = record {
  reply = Ok (reply.Reset (option_map (λ g. g.socket) c.grant));
  cabinet = record c { sockets = record { items = map reset_socket c.sockets.items }; grant = None };
  calls = if is_some c.grant then closing ∷ [] else [];
}

-- what each call does
abbrev pub outcome : Call → Cabinet → (ℕ → Cell) → Meaning → Outcome
outcome (call.Write s bank select w) c cells p = write_outcome c s (write_request c s bank select w)
outcome (call.Read s bank select) c cells p = read_outcome c s (register_of c s bank select)
outcome (call.Acknowledge s l) c cells p = level_outcome c s (level_request c s l)
outcome (call.Outputs s) c cells p = outputs_outcome c s (known_socket c s)
outcome call.Tick c cells p = tick_outcome c cells p
outcome call.Reset c cells p = reset_outcome c

-- What one call did: it replied so, and made cabinet d of c, and q of what the port meant, by the machine.
pub record Happens (cells : ℕ → Cell) (call : Call) (c : Cabinet) (p : Meaning) (r : Result Reply Refusal) (d : Cabinet) (q : Meaning) : Type 0 where
  pub reply : r ≡ (outcome call c cells p).reply
  pub cabinet : d ≡ (outcome call c cells p).cabinet
  pub port : After (outcome call c cells p).calls p q
