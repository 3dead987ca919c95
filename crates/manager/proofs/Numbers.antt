-- No call changes the number of sockets.
use Rattle.std.proofs.Common.{◌≡◌, ℕ, ◌+◌, length, Option, Some, None, Result, Ok, Err, refl, ◌∙◌, nat_lt}
use Rattle.std.proofs.lemmas.List.{length-map}
use Rattle.library.specs.Fault.{Cell}
use Rattle.port.specs.Meaning.{Meaning, opens, takes}
use Rattle.socket.specs.declared.level.Level.{Level}
use Rattle.socket.specs.declared.register.Register.{Register}
use Rattle.socket.specs.declared.write.Write.{Write}
use Rattle.socket.specs.Steps.{after_step, reset_socket}
use Rattle.manager.specs.declared.cabinet.Cabinet.{Cabinet}
use Rattle.manager.specs.declared.call.Call.{Call}
use Rattle.manager.specs.declared.call.Call.TheVariants as call
use Rattle.manager.specs.declared.grant.Grant.{Grant}
use Rattle.manager.specs.declared.refusal.Refusal.{Refusal}
use Rattle.manager.specs.Cabinet.{Service, after_steps, grant_service, move_service, service_by, word_service}
use Rattle.manager.specs.Outcome.{Outcome, level_outcome, outcome, outputs_outcome, read_outcome, write_outcome}
use Rattle.manager.specs.Requests.{known_socket, level_request, register_of, write_request}
use Rattle.manager.specs.Sockets.{next_waiting}
use Rattle.manager.proofs.Kept.{choice}
use Rattle.manager.proofs.Places.{length-with_change}

abbrev Same : Cabinet → Cabinet → Type 0
Same c d = length d.sockets.items ≡ length c.sockets.items

module _ (c : Cabinet) where
  next : (p : Meaning) (n : Option ℕ) → Same c (grant_service c p n).cabinet
  next p None = refl
  next p (Some s) = choice (λ (x : Service). Same c x.cabinet) (opens p s) _ _ (λ opens_it. refl) (λ closed. length-with_change _ s c.sockets.items)

  word : (g : Grant) (w : ℕ) → Same c (word_service c g w).cabinet
  word g w = choice (λ (x : Service). Same c x.cabinet) (nat_lt 1 g.left) _ _ (λ more. refl) (λ last. length-with_change _ g.socket c.sockets.items)

  move : (g : Grant) (p : Meaning) (r : Cell) → Same c (move_service c g p r).cabinet
  move g p (Err f) = length-with_change _ g.socket c.sockets.items
  move g p (Ok w) = choice (λ (x : Service). Same c x.cabinet) (takes p) _ _ (λ room. word g w) (λ full. length-with_change _ g.socket c.sockets.items)

  served : (cells : ℕ → Cell) (p : Meaning) (o : Option Grant) → Same c (service_by c cells p o).cabinet
  served cells p None = next p (next_waiting c.last c.sockets.items)
  served cells p (Some g) = move g p (cells g.place)

  wrote : (s : ℕ) (r : Result Write Refusal) → Same c (write_outcome c s r).cabinet
  wrote s (Ok w) = length-with_change _ s c.sockets.items
  wrote s (Err r) = refl

  was_read : (s : ℕ) (r : Result Register Refusal) → Same c (read_outcome c s r).cabinet
  was_read s (Ok x) = refl
  was_read s (Err r) = refl

  acknowledged : (s : ℕ) (r : Result Level Refusal) → Same c (level_outcome c s r).cabinet
  acknowledged s (Ok l) = length-with_change _ s c.sockets.items
  acknowledged s (Err r) = refl

  told : (s : ℕ) (r : Result Unit Refusal) → Same c (outputs_outcome c s r).cabinet
  told s (Ok known) = refl
  told s (Err r) = refl

pub same_number : (call : Call) (c : Cabinet) (cells : ℕ → Cell) (p : Meaning) → length (outcome call c cells p).cabinet.sockets.items ≡ length c.sockets.items
same_number (call.Write s bank select w) c cells p = wrote c s (write_request c s bank select w)
same_number (call.Read s bank select) c cells p = was_read c s (register_of c s bank select)
same_number (call.Acknowledge s l) c cells p = acknowledged c s (level_request c s l)
same_number (call.Outputs s) c cells p = told c s (known_socket c s)
same_number call.Tick c cells p = choice (λ (x : Outcome). Same c x.cabinet) (nat_lt c.ticks c.ceiling) _ _ (λ few. served (record (after_steps c) { ticks = c.ticks + 1 }) cells p c.grant ∙ length-map c.sockets.items (after_step c.capacity)) (λ many. refl)
same_number call.Reset c cells p = length-map c.sockets.items reset_socket
