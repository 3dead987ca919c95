-- The law of grants, over every run from the making. Assumes nothing.
use Rattle.std.specs.Prelude.{◌≡◌, ℕ, ◌+◌, ◌/◌, ◌%◌, ◌<◌, Bool, true, false, ◌↔◌, List, [], ◌∷◌, length, map, Option, Some, None, Result, Ok, if◌then◌else◌, ◌==◌}
use Rattle.std.specs.List.{range_with_len}
use Rattle.library.specs.Fault.{Cell}
use Rattle.port.specs.Meaning.{Meaning}
use Rattle.socket.specs.declared.tables.File.{File}
use Rattle.socket.specs.Status.{output_bits}
use Rattle.manager.specs.declared.cabinet.Cabinet.{Cabinet}
use Rattle.manager.specs.declared.call.Call.{Call}
use Rattle.manager.specs.declared.call.Reply.{Reply}
use Rattle.manager.specs.declared.refusal.Refusal.{Refusal}
use Rattle.manager.specs.Journal.{Journal, Run, counted, event_of, faulted, faulting, finished, handed_out, hands, last_file, stands, taken_back, was_finished}
use Rattle.manager.specs.Requests.{socket_of}
use Rattle.manager.specs.StopSteps.{answered_steps, owed_steps}

-- one where a port has partition s open, else none
abbrev pub open_count : ℕ → Option ℕ → ℕ
open_count s None = 0
open_count s (Some t) = if t == s then 1 else 0

-- a partition holds the library's words of a file from its first on, n of them, or what it held at the making
abbrev pub Holds : (ℕ → Cell) → Option File → ℕ → List ℕ → List ℕ → Type 0
Holds cells None n before now = now ≡ before
Holds cells (Some f) n before now = map (λ w. Ok w) now ≡ map cells (range_with_len (f.address / 4) n)

-- a grant has counted its whole file exactly where it was finished
abbrev pub WholeIfFinished : Option File → ℕ → Bool → Type 0
WholeIfFinished None n done = done ≡ false
WholeIfFinished (Some f) n done = (n ≡ f.size / 4) ↔ (done ≡ true)

-- each fault of socket s tells how many words its grant had counted
abbrev pub FaultsTold : ℕ → Journal → Type 0
FaultsTold s [] = Unit {0}
FaultsTold s (e ∷ j) = ((n : ℕ) → event_of e.reply ≡ faulting s n → n ≡ counted s j) × FaultsTold s j

-- each grant went to a socket whose old module's stop steps had each been answered since the take-up, in the kind's order
abbrev pub GrantsStopped : ℕ → Journal → Type 0
GrantsStopped s [] = Unit {0}
GrantsStopped s (e ∷ j) = (hands s (event_of e.reply) ≡ true → owed_steps s (e ∷ j) ≡ Some (answered_steps s (e ∷ j))) × GrantsStopped s j

-- What holds after every call of a run that has led to cabinet c, and to what the port means.
pub record Law (cells : ℕ → Cell) (p₀ : Meaning) (j : Journal) (c : Cabinet) (p : Meaning) : Type 0 where
  -- at most one grant stands
  pub one : (s t : ℕ) → s < length c.sockets.items → t < length c.sockets.items → stands s j ≡ true → stands t j ≡ true → s ≡ t
  -- what was handed out was finished, faulted or taken back, but for one whose partition is open
  pub books : (s : ℕ) → s < length c.sockets.items → handed_out s j ≡ finished s j + faulted s j + taken_back s j + open_count s p.opened
  -- each partition holds the words of its last grant, as many as were counted
  pub holds : (s : ℕ) → s < length c.sockets.items → Holds cells (last_file s j) (counted s j) (p₀.words s) (p.words s)
  pub whole : (s : ℕ) → s < length c.sockets.items → WholeIfFinished (last_file s j) (counted s j) (was_finished s j)
  pub told : (s : ℕ) → s < length c.sockets.items → FaultsTold s j
  pub stopped : (s : ℕ) → s < length c.sockets.items → GrantsStopped s j
  -- a socket is uncoupled while its grant stands: output bit 1 is set
  pub uncoupled : (s : ℕ) → s < length c.sockets.items → stands s j ≡ true → output_bits (socket_of c s).mode / 2 % 2 ≡ 1

-- whatever run led here, it goes on with this call, and the law holds after it
abbrev pub Lawful : (ℕ → Cell) → Call → Cabinet → Meaning → Result Reply Refusal → Cabinet → Meaning → Type 0
Lawful cells call c p r d q =
    (p₀ : Meaning) (j : Journal) → Run cells p₀ j c p →
    Run cells p₀ (record { call = call; reply = r; before = c; after = d } ∷ j) d q × Law cells p₀ (record { call = call; reply = r; before = c; after = d } ∷ j) d q
