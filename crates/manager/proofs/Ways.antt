-- The ways through the second part of a tick.
use Rattle.std.proofs.Common.{◌≡◌, ℕ, ◌+◌, Bool, true, false, cond, [], ◌∷◌, nat_lt, Option, Some, None, Ok, Err, refl}
use Rattle.library.specs.Fault.{Cell}
use Rattle.port.specs.Meaning.{Meaning, opens, takes}
use Rattle.port.specs.Steps.{closing, opening, putting}
use Rattle.socket.specs.declared.mode.Error.TheVariants as error
use Rattle.manager.specs.declared.cabinet.Cabinet.{Cabinet}
use Rattle.manager.specs.declared.grant.Grant.{Grant}
use Rattle.manager.specs.declared.tick.LoadCause.{LoadCause}
use Rattle.manager.specs.declared.tick.LoadCause.TheVariants.{Library, Port}
use Rattle.manager.specs.declared.tick.Tick.{Tick}
use Rattle.manager.specs.declared.tick.Tick.TheVariants.{Idle, Granted, Word, Done, Fault, Barred}
use Rattle.manager.specs.Cabinet.{Service, after_end, after_steps, end_calls, fault_service, grant_service, load_error, move_service, service_by, with_grant, word_service}
use Rattle.manager.specs.Grants.{after_word}
use Rattle.manager.specs.Sockets.{next_waiting}

-- What a tick answers, and makes of a cabinet.
pub data Way (c : Cabinet) : Tick → Cabinet → Type 0 where
  idle : Way c Idle c
  granting : (t : ℕ) → next_waiting c.last c.sockets.items ≡ Some t → Way c (Granted t) (with_grant c t)
  barring : (t : ℕ) → Way c (Barred t) (after_end (record c { last = t }) t (Err error.Port))
  counting : (g : Grant) → Way c (Word g.socket) (record c { grant = Some (after_word g) })
  finishing : (g : Grant) → Way c (Done g.socket) (after_end c g.socket (Ok tt))
  failing : (g : Grant) (cause : LoadCause) → Way c (Fault g.socket (record { moved = g.moved; cause = cause })) (after_end c g.socket (Err (load_error cause)))

module _ (c : Cabinet) where
  abbrev Goes : Service → Type 0
  Goes v = Way c v.answer v.cabinet

  grants : (p : Meaning) (next : Option ℕ) → next_waiting c.last c.sockets.items ≡ next → Goes (grant_service c p next)
  grants p None is = idle
  grants p (Some t) is = by (opens p t)
    where
      by : (opened : Bool) → Goes (cond opened (record { answer = Granted t; cabinet = with_grant c t; calls = opening t ∷ [] }) (record { answer = Barred t; cabinet = after_end (record c { last = t }) t (Err error.Port); calls = opening t ∷ [] }))
      by true = granting t is
      by false = barring t

  counts : (g : Grant) (w : ℕ) → Goes (word_service c g w)
  counts g w = by (nat_lt 1 g.left)
    where
      by : (more : Bool) → Goes (cond more (record { answer = Word g.socket; cabinet = record c { grant = Some (after_word g) }; calls = putting w ∷ end_calls g }) (record { answer = Done g.socket; cabinet = after_end c g.socket (Ok tt); calls = putting w ∷ end_calls g }))
      by true = counting g
      by false = finishing g

  moves : (g : Grant) (p : Meaning) (cell : Cell) → Goes (move_service c g p cell)
  moves g p (Err f) = failing g (Library f)
  moves g p (Ok w) = by (takes p)
    where
      by : (taken : Bool) → Goes (cond taken (word_service c g w) (fault_service c g Port (putting w ∷ closing ∷ [])))
      by true = counts g w
      by false = failing g Port

  pub goes : (cells : ℕ → Cell) (p : Meaning) (g : Option Grant) → Goes (service_by c cells p g)
  goes cells p None = grants p (next_waiting c.last c.sockets.items) refl
  goes cells p (Some g) = moves g p (cells g.place)

-- a cabinet after the first part of a tick
abbrev pub stepped_cabinet : Cabinet → Cabinet
stepped_cabinet c = record (after_steps c) { ticks = c.ticks + 1 }
