-- What a tick does with the port keeps what a run keeps.
use Rattle.std.proofs.Common.{◌≡◌, ℕ, ◌<◌, ◌+◌, ◌/◌, ◌%◌, ◌^◌, true, false, cond, [], ◌∷◌, Option, Some, None, IfSome, is_some, Ok, Err, refl, ap, ◌∙◌, eqb, nat_lt, arith}
use Rattle.std.proofs.lemmas.Bool.Decides.{nat_tests}
use Rattle.std.specs.Option.{option_map}
use Rattle.library.specs.Fault.{Cell}
use Rattle.port.specs.Meaning.{Meaning, after_close, after_open, after_put, opens, takes, with_empty_list, with_put_word}
use Rattle.port.specs.Steps.{Step, closing, opening, putting}
use Rattle.socket.specs.declared.mode.Error.TheVariants as error
use Rattle.socket.specs.declared.tables.File.{File}
use Rattle.manager.specs.declared.cabinet.Cabinet.{Cabinet}
use Rattle.manager.specs.declared.call.Reply.TheVariants as reply
use Rattle.manager.specs.declared.grant.Grant.{Grant}
use Rattle.manager.specs.declared.tick.LoadCause.{LoadCause}
use Rattle.manager.specs.declared.tick.LoadCause.TheVariants.{Library, Port}
use Rattle.manager.specs.declared.tick.Tick.TheVariants.{Granted, Word, Done, Fault, Barred}
use Rattle.manager.specs.Cabinet.{Service, after_end, fault_service, grant_service, load_error, move_service, service, service_by, with_grant, word_service}
use Rattle.manager.specs.Calls.{After}
use Rattle.manager.specs.Grants.{after_word}
use Rattle.manager.specs.Journal.{Entry, Journal, counted, event_of, faulting, finishing, handing, moving}
use Rattle.manager.specs.Outcome.{service_outcome}
use Rattle.manager.specs.Sockets.{awaited_at, next_waiting}
use Rattle.manager.proofs.Accounts.{Account, ended, ended_other, failed, failed_other, handed, handed_other, moved, moved_other, quiet}
use Rattle.manager.proofs.Kept.{Keeps, Kept, Standing, choice, each, file_facts, kept_end}
use Rattle.manager.proofs.Places.{next_waits}

-- Where a port opens a partition.
record Opened (s : ℕ) (p q : Meaning) : Type 0 where
  opened : q.opened ≡ Some s
  words : (t : ℕ) → q.words t ≡ with_empty_list s p.words t

opened_by : (s : ℕ) (p q : Meaning) → opens p s ≡ true → Step (opening s) p q → Opened s p q
opened_by s p q opens_it step =
    let after : q ≡ after_open s q.room q.spent p = rw opens_it at step in
    record { opened = ap (λ (m : Meaning). m.opened) after; words = λ t. ap (λ (m : Meaning). m.words t) after }

-- Where a port takes a word for an open partition.
record Took (s w : ℕ) (p q : Meaning) : Type 0 where
  opened : q.opened ≡ Some s
  words : (t : ℕ) → q.words t ≡ with_put_word (Some s) w p.words t

-- Where it was open, and is shut.
pub record Shut (p q : Meaning) : Type 0 where
  pub opened : q.opened ≡ None
  pub words : (t : ℕ) → q.words t ≡ p.words t

module _ (s : ℕ) (p : Meaning) (is_open : p.opened ≡ Some s) where
  took : (w : ℕ) (q : Meaning) → takes p ≡ true → Step (putting w) p q → Took s w p q
  took w q yes_room step =
      let after : q ≡ after_put w q.spent p = rw yes_room at step in
      record { opened = ap (λ (m : Meaning). m.opened) after ∙ is_open; words = λ t. ap (λ (m : Meaning). m.words t) after ∙ ap (λ (o : Option ℕ). with_put_word o w p.words t) is_open }

  shut : (q : Meaning) → Step closing p q → Shut p q
  shut q step =
      let after : q ≡ after_close q.spent p = rw is_open at step in
      record { opened = ap (λ (m : Meaning). m.opened) after; words = λ t. ap (λ (m : Meaning). m.words t) after }

  pub shut_by : (q : Meaning) → After (closing ∷ []) p q → Shut p q
  shut_by q (m, step, same) = rw same (shut m step)

module _ (cells : ℕ → Cell) (p₀ : Meaning) (j : Journal) (c : Cabinet) (p : Meaning) (old : Kept cells p₀ j c p) where
  abbrev Serves : Service → Type 0
  Serves x = Keeps cells p₀ j p (service_outcome x)

  -- no socket has the port
  module _ (free : c.grant ≡ None) where
    none_open : p.opened ≡ None
    none_open = old.tied ∙ ap (option_map (λ (g : Grant). g.socket)) free

    idle : Serves (grant_service c p None)
    idle e q is after same = record {
      tied = rw same old.tied;
      sound = old.sound;
      standing = rw free tt;
      accounts = λ s. rw same (quiet cells s e j (p₀.words s) (p.words s) p.opened (ap event_of is) (old.accounts s));
    }

    granted : (s : ℕ) (f : File) → awaited_at c.sockets.items s ≡ Some f → opens p s ≡ true → Serves (record { answer = Granted s; cabinet = with_grant c s; calls = opening s ∷ [] })
    granted s f waits opens_it e q is after (m, step, same) =
        let self : eqb s s ≡ true = grind (arith, nat_tests) in
        let facts = file_facts c s f (old.sound s) waits in
        let event : event_of e.reply ≡ handing s = ap event_of is in
        let then : Opened s p q = rw same (opened_by s p m opens_it step) in
        let awaited : awaited_at e.after.sockets.items s ≡ Some f = rw after waits in
        record {
          tied = rw waits then.opened;
          sound = old.sound;
          standing = rw waits (record { file = f; waits = waits; last = rw (event, self) awaited; moved = rw (event, self) refl; place = omega arith; left = omega arith; more = facts.1; small = facts.0 });
          accounts = each (λ t. Account cells t (e ∷ j) (p₀.words t) (q.words t) q.opened) s
              (rw (then.opened, then.words s, self) (handed cells s e j (p₀.words s) (p.words s) f event awaited facts.1 (rw none_open at (old.accounts s))))
              (λ t apart. let back : eqb t s ≡ false = grind (arith, nat_tests) in rw (then.opened, then.words t, back) (handed_other cells t e j (p₀.words t) (p.words t) s event apart (rw none_open at (old.accounts t))));
        }

    barred : (s : ℕ) → opens p s ≡ false → Serves (record { answer = Barred s; cabinet = after_end (record c { last = s }) s (Err error.Port); calls = opening s ∷ [] })
    barred s closed e q is after (m, step, same) =
        let unchanged : q ≡ p = same ∙ (rw closed at step) in
        kept_end cells p₀ (e ∷ j) (record c { last = s }) s (Err error.Port) q old.sound (rw unchanged none_open) (λ t. rw unchanged (quiet cells t e j (p₀.words t) (p.words t) None (ap event_of is) (rw none_open at (old.accounts t))))

    offered : (s : ℕ) → is_some (awaited_at c.sockets.items s) ≡ true → Serves (grant_service c p (Some s))
    offered s waits = by_file (awaited_at c.sockets.items s) refl waits
      where
        by_file : (o : Option File) → awaited_at c.sockets.items s ≡ o → is_some o ≡ true → Serves (grant_service c p (Some s))
        by_file None is some = cc
        by_file (Some f) is some = choice Serves (opens p s) _ _ (granted s f is) (barred s)

    pub served_next : (n : Option ℕ) → IfSome n (λ s. is_some (awaited_at c.sockets.items s) ≡ true) → Serves (grant_service c p n)
    served_next None waits = idle
    served_next (Some s) waits = offered s waits

  -- a socket has it
  module _ (g : Grant) (has : c.grant ≡ Some g) (st : Standing j c.sockets.items g) where
    is_open : p.opened ≡ Some g.socket
    is_open = old.tied ∙ ap (option_map (λ (x : Grant). x.socket)) has

    -- what its socket's partition holds, is the word at its place
    next_cell : (w : ℕ) → cells g.place ≡ Ok w → cells (st.file.address / 4 + counted g.socket j) ≡ Ok w
    next_cell w here = let place : g.place ≡ st.file.address / 4 + counted g.socket j = st.place ∙ ap (λ (n : ℕ). st.file.address / 4 + n) st.moved in rw place at here

    one_more : (w : ℕ) → cells g.place ≡ Ok w → takes p ≡ true → nat_lt 1 g.left ≡ true → Serves (record { answer = Word g.socket; cabinet = record c { grant = Some (after_word g) }; calls = putting w ∷ cond (nat_lt 1 g.left) [] (closing ∷ []) })
    one_more w here room more e q is after (m, step, rest) =
        let self : eqb g.socket g.socket ≡ true = grind (arith, nat_tests) in
        let event : event_of e.reply ≡ moving g.socket = ap event_of is in
        let same : q ≡ m = rw more at rest in
        let then : Took g.socket w p q = rw same (took g.socket p is_open w m room step) in
        let several : 1 < g.left = grind (arith, nat_tests) in
        let few : st.file.size < 2 ^ 32 = st.small.size in
        let low : st.file.address < 2 ^ 32 = st.small.address in
        let counted_one : (g.moved + 1) % 2 ^ 32 ≡ counted g.socket j + 1 = omega (arith, st.moved, st.left, several, few) in
        record {
          tied = then.opened;
          sound = old.sound;
          standing = record {
            file = st.file;
            waits = st.waits;
            last = rw event st.last;
            moved = rw (event, self) counted_one;
            place = omega (arith, st.place, st.moved, st.left, several, few, low);
            left = omega (arith, st.left, several, few);
            more = omega (arith, several);
            small = st.small;
          };
          accounts = each (λ t. Account cells t (e ∷ j) (p₀.words t) (q.words t) q.opened) g.socket
              (rw (then.opened, then.words g.socket, self) (moved cells g.socket e j (p₀.words g.socket) (p.words g.socket) st.file w event st.last (next_cell w here) (omega (arith, st.moved, st.left, several)) (rw is_open at (old.accounts g.socket))))
              (λ t apart. let back : eqb t g.socket ≡ false = grind (arith, nat_tests) in rw (then.opened, then.words t, back) (moved_other cells t e j (p₀.words t) (p.words t) g.socket event apart (rw is_open at (old.accounts t))));
        }

    last_one : (w : ℕ) → cells g.place ≡ Ok w → takes p ≡ true → nat_lt 1 g.left ≡ false → Serves (record { answer = Done g.socket; cabinet = after_end c g.socket (Ok tt); calls = putting w ∷ cond (nat_lt 1 g.left) [] (closing ∷ []) })
    last_one w here room more e q is after (m, step, rest) =
        let self : eqb g.socket g.socket ≡ true = grind (arith, nat_tests) in
        let event : event_of e.reply ≡ finishing g.socket = ap event_of is in
        let put : Took g.socket w p m = took g.socket p is_open w m room step in
        let closed : Shut m q = shut_by g.socket m put.opened q (rw more at rest) in
        let single : g.left ≡ 1 = grind (arith, nat_tests, st.more) in
        kept_end cells p₀ (e ∷ j) c g.socket (Ok tt) q old.sound closed.opened
        (each (λ t. Account cells t (e ∷ j) (p₀.words t) (q.words t) None) g.socket
        (rw (closed.words g.socket, put.words g.socket, self) (ended cells g.socket e j (p₀.words g.socket) (p.words g.socket) st.file w event st.last (next_cell w here) (omega (arith, st.moved, st.left, single)) (rw is_open at (old.accounts g.socket))))
        (λ t apart. let back : eqb t g.socket ≡ false = grind (arith, nat_tests) in rw (closed.words t, put.words t, back) (ended_other cells t e j (p₀.words t) (p.words t) g.socket event apart (rw is_open at (old.accounts t)))))

    fails : (cause : LoadCause) (e : Entry) (q : Meaning) → e.reply ≡ Ok (reply.Ticked (Fault g.socket (record { moved = g.moved; cause = cause }))) → Shut p q → Kept cells p₀ (e ∷ j) (after_end c g.socket (Err (load_error cause))) q
    fails cause e q is closed =
        let event : event_of e.reply ≡ faulting g.socket g.moved = ap event_of is in
        kept_end cells p₀ (e ∷ j) c g.socket (Err (load_error cause)) q old.sound closed.opened
        (each (λ t. Account cells t (e ∷ j) (p₀.words t) (q.words t) None) g.socket
        (rw (closed.words g.socket) (failed cells g.socket e j (p₀.words g.socket) (p.words g.socket) g.moved event st.moved (rw is_open at (old.accounts g.socket))))
        (λ t apart. rw (closed.words t) (failed_other cells t e j (p₀.words t) (p.words t) g.socket g.moved event apart (rw is_open at (old.accounts t)))))

    not_found : (cause : LoadCause) → Serves (fault_service c g cause (closing ∷ []))
    not_found cause e q is after closing_it = fails cause e q is (shut_by g.socket p is_open q closing_it)

    not_taken : (w : ℕ) → takes p ≡ false → Serves (fault_service c g Port (putting w ∷ closing ∷ []))
    not_taken w full e q is after (m, put, closing_it) =
        let unchanged : m ≡ p = rw full at put in
        fails Port e q is (shut_by g.socket p is_open q (rw unchanged at closing_it))

    taken_word : (w : ℕ) → cells g.place ≡ Ok w → takes p ≡ true → Serves (word_service c g w)
    taken_word w here room = choice Serves (nat_lt 1 g.left) _ _ (one_more w here room) (last_one w here room)

    pub served_grant : (r : Cell) → cells g.place ≡ r → Serves (move_service c g p r)
    served_grant (Err f) here = not_found (Library f)
    served_grant (Ok w) here = choice Serves (takes p) _ _ (taken_word w here) (not_taken w)

  served_by : (o : Option Grant) → c.grant ≡ o → IfSome o (Standing j c.sockets.items) → Serves (service_by c cells p o)
  served_by None free st = served_next free (next_waiting c.last c.sockets.items) (next_waits c.last c.sockets.items)
  served_by (Some g) has st = served_grant g has st (cells g.place) refl

  pub served : Serves (service c cells p)
  served = served_by c.grant refl old.standing
