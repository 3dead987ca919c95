-- What a tick makes of a cabinet, by what its library has and its port says. Assumes nothing.
use Rattle.std.specs.Prelude.{ℕ, ◌+◌, Bool, List, [], ◌∷◌, map, Option, Some, None, Result, Ok, Err, if◌then◌else◌, nat_lt}
use Rattle.std.specs.Option.{option_map}
use Rattle.library.specs.Fault.{Cell}
use Rattle.port.specs.Meaning.{Meaning, opens, takes}
use Rattle.port.specs.Steps.{Call, opening, putting, closing}
use Rattle.socket.specs.declared.mode.Error.{Error}
use Rattle.socket.specs.declared.mode.Error.TheVariants as error
use Rattle.socket.specs.declared.socket.Socket.{Socket}
use Rattle.socket.specs.Steps.{after_step}
use Rattle.manager.specs.declared.cabinet.Cabinet.{Cabinet}
use Rattle.manager.specs.declared.grant.Grant.{Grant}
use Rattle.manager.specs.declared.tick.LoadCause.{LoadCause}
use Rattle.manager.specs.declared.tick.LoadCause.TheVariants.{Library, Port}
use Rattle.manager.specs.declared.tick.Tick.{Tick}
use Rattle.manager.specs.declared.tick.Tick.TheVariants.{Idle, Granted, Word, Done, Fault, Barred}
use Rattle.manager.specs.Grants.{after_word, grant_of}
use Rattle.manager.specs.Sockets.{awaited_at, ended_socket, next_waiting, with_change}

-- a cabinet with other sockets
abbrev pub with_sockets : Cabinet → List Socket → Cabinet
with_sockets c ss = record c { sockets = record { items = ss } }

-- a cabinet whose sockets have each taken the step of a tick
abbrev pub after_steps : Cabinet → Cabinet
after_steps c = with_sockets c (map (after_step c.capacity) c.sockets.items)

-- the error that a socket shows after a load that ended so
abbrev pub load_error : LoadCause → Error
load_error (Library f) = error.Library
load_error Port = error.Port

-- a cabinet where socket s has the port, for the file that it waits for
abbrev pub with_grant : Cabinet → ℕ → Cabinet
with_grant c s = record c { last = s; grant = option_map (grant_of s) (awaited_at c.sockets.items s) }

-- a cabinet where no socket has the port any more, and the load of socket s ended so
abbrev pub after_end : Cabinet → ℕ → Result Unit Error → Cabinet
after_end c s outcome = record c { sockets = record { items = with_change (ended_socket outcome) s c.sockets.items }; grant = None }

-- What a tick does with the port: its answer, the cabinet after it, and its calls of the port, in order.
pub record Service : Type 0 where
  pub answer : Tick
  pub cabinet : Cabinet
  pub calls : List Call

-- the first waiting socket is granted the port, or barred where the port does not open its partition
abbrev pub grant_service : Cabinet → Meaning → Option ℕ → Service
grant_service c p None = record { answer = Idle; cabinet = c; calls = [] }
grant_service c p (Some s) =
    if opens p s
    then record { answer = Granted s; cabinet = with_grant c s; calls = opening s ∷ [] }
    else record { answer = Barred s; cabinet = after_end (record c { last = s }) s (Err error.Port); calls = opening s ∷ [] }

-- whether a word was moved, by its cell and by whether the port takes it
abbrev pub moved_word : Cell → Bool → Result Unit LoadCause
moved_word (Err f) taken = Err (Library f)
moved_word (Ok w) taken = if taken then Ok tt else Err Port

-- the port is asked to take the word of a cell
abbrev pub put_calls : Cell → List Call
put_calls (Err f) = []
put_calls (Ok w) = putting w ∷ []

-- the load of a grant's socket fails: the port is closed
abbrev pub fault_service : Cabinet → Grant → LoadCause → List Call → Service
fault_service c g cause calls = record { answer = Fault g.socket (record { moved = g.moved; cause = cause }); cabinet = after_end c g.socket (Err (load_error cause)); calls = calls }

-- behind the last word of a grant the port is closed
abbrev pub end_calls : Grant → List Call
end_calls g = if nat_lt 1 g.left then [] else closing ∷ []

-- a word was moved for a grant, the last one or not
abbrev pub word_service : Cabinet → Grant → ℕ → Service
word_service c g w =
    if nat_lt 1 g.left
    then record { answer = Word g.socket; cabinet = record c { grant = Some (after_word g) }; calls = putting w ∷ end_calls g }
    else record { answer = Done g.socket; cabinet = after_end c g.socket (Ok tt); calls = putting w ∷ end_calls g }

-- the word of a grant's place goes from the library, which is asked first, to the port
abbrev pub move_service : Cabinet → Grant → Meaning → Cell → Service
move_service c g p (Err f) = fault_service c g (Library f) (closing ∷ [])
move_service c g p (Ok w) = if takes p then word_service c g w else fault_service c g Port (putting w ∷ closing ∷ [])

-- the second part of a tick, by the grant that stands
abbrev pub service_by : Cabinet → (ℕ → Cell) → Meaning → Option Grant → Service
service_by c cells p None = grant_service c p (next_waiting c.last c.sockets.items)
service_by c cells p (Some g) = move_service c g p (cells g.place)

-- the second part of a tick
abbrev pub service : Cabinet → (ℕ → Cell) → Meaning → Service
service c cells p = service_by c cells p c.grant

-- a tick that is accepted
abbrev pub accepted_tick : Cabinet → (ℕ → Cell) → Meaning → Service
accepted_tick c cells p = service (record (after_steps c) { ticks = c.ticks + 1 }) cells p
