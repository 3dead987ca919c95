-- What a run of calls tells, newest call first. Assumes nothing.
use Rattle.std.specs.Prelude.{◌≡◌, ℕ, ◌+◌, ◌-◌, ◌^◌, ◌<◌, Bool, true, false, List, [], ◌∷◌, replicate, Option, Some, None, Result, Ok, if◌then◌else◌, ◌==◌, count_by, nat_lt}
use Rattle.library.specs.Fault.{Cell}
use Rattle.port.specs.Meaning.{Meaning}
use Rattle.socket.specs.declared.capacity.Capacity.{Capacity}
use Rattle.socket.specs.declared.tables.File.{File}
use Rattle.socket.specs.Socket.{fresh_socket}
use Rattle.manager.specs.declared.cabinet.Cabinet.{Cabinet}
use Rattle.manager.specs.declared.call.Call.{Call}
use Rattle.manager.specs.declared.call.Call.TheVariants as call
use Rattle.manager.specs.declared.call.Reply.{Reply}
use Rattle.manager.specs.declared.call.Reply.TheVariants as reply
use Rattle.manager.specs.declared.refusal.Refusal.{Refusal}
use Rattle.manager.specs.declared.tick.Tick.TheVariants.{Granted, Word, Done, Fault}
use Rattle.manager.specs.Outcome.{Happens}
use Rattle.manager.specs.Sockets.{awaited_at}

-- A call with its reply, and the cabinet before it and after it.
pub record Entry : Type 0 where
  pub call : Call
  pub reply : Result Reply Refusal
  pub before : Cabinet
  pub after : Cabinet

-- the entries of a run, newest first
abbrev pub Journal : Type 0
Journal = List Entry

-- a cabinet at its making: n empty sockets in shutdown, of which the last counts as the one that had the port
abbrev pub made_cabinet : Capacity → ℕ → ℕ → Cabinet
made_cabinet k n ceiling = record { capacity = k; sockets = record { items = replicate n (fresh_socket k) }; ceiling = ceiling; ticks = 0; last = n - 1; grant = None }

-- a word that a call writes is one of 32 bits
abbrev pub FitsWord : Call → Type 0
FitsWord (call.Write s bank select w) = w < 2 ^ 32
FitsWord c = Unit {0}

-- A run from the making, over a library with these cells and a port that then meant p₀, has led to cabinet c and to what the port means now.
pub data Run (cells : ℕ → Cell) (p₀ : Meaning) : Journal → Cabinet → Meaning → Type 0 where
  made : (k : Capacity) (n ceiling : ℕ) → (0 < n → p₀.opened ≡ None) → Run cells p₀ [] (made_cabinet k n ceiling) p₀
  called : {j : Journal} {c d : Cabinet} {p q : Meaning} {r : Result Reply Refusal} (call : Call) → FitsWord call → Run cells p₀ j c p → Happens cells call c p r d q → Run cells p₀ (record { call = call; reply = r; before = c; after = d } ∷ j) d q

-- What a reply says of a grant.
pub data Event : Type 0 where
  handing : ℕ → Event
  moving : ℕ → Event
  finishing : ℕ → Event
  -- with the words that were moved
  faulting : ℕ → ℕ → Event
  taking_back : ℕ → Event
  nothing : Event

-- granted hands a grant out, done finishes it, fault faults it, and a reset that names the socket takes it back
abbrev pub event_of : Result Reply Refusal → Event
event_of (Ok (reply.Ticked (Granted s))) = handing s
event_of (Ok (reply.Ticked (Word s))) = moving s
event_of (Ok (reply.Ticked (Done s))) = finishing s
event_of (Ok (reply.Ticked (Fault s f))) = faulting s f.moved
event_of (Ok (reply.Reset (Some s))) = taking_back s
event_of r = nothing

-- whether an event hands a grant out to socket s
abbrev pub hands : ℕ → Event → Bool
hands s (handing t) = t == s
hands s e = false

-- whether it finishes a grant of socket s
abbrev pub finishes : ℕ → Event → Bool
finishes s (finishing t) = t == s
finishes s e = false

-- whether it faults one
abbrev pub faults : ℕ → Event → Bool
faults s (faulting t n) = t == s
faults s e = false

-- whether it takes one back
abbrev pub takes_back : ℕ → Event → Bool
takes_back s (taking_back t) = t == s
takes_back s e = false

-- whether a word of a grant of socket s was counted in it
abbrev pub counts_word : ℕ → Event → Bool
counts_word s (moving t) = t == s
counts_word s (finishing t) = t == s
counts_word s e = false

-- how many grants were handed out to socket s
abbrev pub handed_out : ℕ → Journal → ℕ
handed_out s j = count_by (λ e. hands s (event_of e.reply)) j

-- how many were finished
abbrev pub finished : ℕ → Journal → ℕ
finished s j = count_by (λ e. finishes s (event_of e.reply)) j

-- how many were faulted
abbrev pub faulted : ℕ → Journal → ℕ
faulted s j = count_by (λ e. faults s (event_of e.reply)) j

-- how many were taken back
abbrev pub taken_back : ℕ → Journal → ℕ
taken_back s j = count_by (λ e. takes_back s (event_of e.reply)) j

-- whether a grant of socket s stands: it was handed out, and not yet given back in any way
abbrev pub stands : ℕ → Journal → Bool
stands s j = nat_lt (finished s j + faulted s j + taken_back s j) (handed_out s j)

-- the file of the last grant of socket s: the one that it waits for when it is granted
abbrev pub last_file : ℕ → Journal → Option File
last_file s [] = None
last_file s (e ∷ j) = if hands s (event_of e.reply) then awaited_at e.after.sockets.items s else last_file s j

-- how many words were counted in the last grant of socket s
abbrev pub counted : ℕ → Journal → ℕ
counted s [] = 0
counted s (e ∷ j) = if hands s (event_of e.reply) then 0 else counted s j + (if counts_word s (event_of e.reply) then 1 else 0)

-- whether the last grant of socket s was finished
abbrev pub was_finished : ℕ → Journal → Bool
was_finished s [] = false
was_finished s (e ∷ j) = if hands s (event_of e.reply) then false else (if finishes s (event_of e.reply) then true else was_finished s j)
