-- Each call keeps what a run keeps, and so does every run.
use Rattle.std.proofs.Common.{◌≡◌, ℕ, ◌<◌, ◌+◌, ◌^◌, Bool, true, false, cond, List, [], ◌∷◌, get_or, Option, Some, None, IfSome, is_some, Result, Ok, Err, map, sym, refl, ap, ◌∙◌, eqb, nat_lt, add-zero}
use Rattle.std.specs.Option.{option_map}
use Rattle.library.specs.Fault.{Cell}
use Rattle.port.specs.Meaning.{Meaning}
use Rattle.port.specs.Steps.{closing}
use Rattle.socket.specs.declared.capacity.Capacity.{Capacity}
use Rattle.socket.specs.declared.command.Command.{Command}
use Rattle.socket.specs.declared.level.Level.{Level}
use Rattle.socket.specs.declared.refusal.Refusal.{Refusal as SocketRefusal}
use Rattle.socket.specs.declared.refusal.Refusal.TheVariants.{BadWord}
use Rattle.socket.specs.declared.register.Register.{Register}
use Rattle.socket.specs.declared.register.Register.TheVariants as register
use Rattle.socket.specs.declared.socket.Socket.{Socket}
use Rattle.socket.specs.declared.tables.File.{File}
use Rattle.socket.specs.declared.write.Write.{Write}
use Rattle.socket.specs.declared.write.Write.TheVariants as write
use Rattle.socket.specs.Calls.{acknowledging, resetting, stepping, writing}
use Rattle.socket.specs.Command.{command_of_word}
use Rattle.socket.specs.Socket.{fresh_socket, with_level}
use Rattle.socket.specs.Steps.{after_step, awaited_file, reset_socket}
use Rattle.socket.specs.Write.{control_write, write_of}
use Rattle.socket.specs.Writes.{after_write}
use Rattle.manager.specs.declared.cabinet.Cabinet.{Cabinet}
use Rattle.manager.specs.declared.call.Call.{Call}
use Rattle.manager.specs.declared.call.Call.TheVariants as call
use Rattle.manager.specs.declared.call.Reply.{Reply}
use Rattle.manager.specs.declared.call.Reply.TheVariants as reply
use Rattle.manager.specs.declared.grant.Grant.{Grant}
use Rattle.manager.specs.declared.refusal.Refusal.{Refusal}
use Rattle.manager.specs.declared.refusal.Refusal.TheVariants.{CeilingReached}
use Rattle.manager.specs.Cabinet.{after_steps, with_sockets}
use Rattle.manager.specs.Calls.{After}
use Rattle.manager.specs.Journal.{Entry, FitsWord, Journal, event_of, nothing, taking_back}
use Rattle.manager.specs.Outcome.{level_outcome, outcome, outputs_outcome, quiet as quiet_outcome, read_outcome, reset_outcome, tick_outcome, write_outcome}
use Rattle.manager.specs.Requests.{and_then, known_socket, level_request, register_of, socket_of, told, write_request}
use Rattle.manager.specs.Sockets.{awaited_at, with_change}
use Rattle.manager.proofs.Accounts.{Account, quiet, taken, taken_other}
use Rattle.manager.proofs.Kept.{Keeps, Kept, Standing, choice, each}
use Rattle.manager.proofs.Places.{awaited_here, change_keeps, map_keeps}
use Rattle.manager.proofs.Services.{Shut, served, shut_by}
use Rattle.manager.proofs.Sound.{FitsWrite, Sound, sound_call, sound_fresh, still_after_step, still_after_write}

-- what a register takes from a word of 32 bits fits
abbrev FitsRequest : {E : Type 0} → Result Write E → Type 0
FitsRequest (Ok w) = FitsWrite w
FitsRequest (Err r) = Unit {0}

command_fits : (r : Result Command SocketRefusal) → FitsRequest (control_write r)
command_fits (Ok c) = tt
command_fits (Err r) = tt

id_fits : (b : Bool) → FitsRequest {E = SocketRefusal} (cond b (Ok write.FileId) (Err BadWord))
id_fits true = tt
id_fits false = tt

word_fits : (k : Capacity) (r : Register) (w : ℕ) → w < 2 ^ 32 → FitsRequest (write_of k r w)
word_fits k register.Status w fits = command_fits (command_of_word w)
word_fits k (register.FileId r) w fits = id_fits (eqb w 0)
word_fits k (register.Address r) w fits = fits
word_fits k (register.Size r) w fits = fits
word_fits k r w fits = tt

told_fits : (r : Result Write SocketRefusal) → FitsRequest r → FitsRequest (told r)
told_fits (Ok w) fits = fits
told_fits (Err x) fits = tt

register_fits : (k : Capacity) (r : Result Register Refusal) (w : ℕ) → w < 2 ^ 32 → FitsRequest (and_then r (λ x. told (write_of k x w)))
register_fits k (Ok r) w fits = told_fits (write_of k r w) (word_fits k r w fits)
register_fits k (Err x) w fits = tt

-- a grant goes on standing through an event of no socket
standing_on : (e : Entry) (j : Journal) (ss : List Socket) → event_of e.reply ≡ nothing → (o : Option Grant) → IfSome o (Standing j ss) → IfSome o (Standing (e ∷ j) ss)
standing_on e j ss is None st = tt
standing_on e j ss is (Some g) st = record { file = st.file; waits = st.waits; last = rw is st.last; moved = rw (is, add-zero) st.moved; place = st.place; left = st.left; more = st.more; small = st.small }

-- and among sockets that go on waiting
standing_among : (j : Journal) (ss us : List Socket) → ((s : ℕ) (f : File) → awaited_at ss s ≡ Some f → awaited_at us s ≡ Some f) → (o : Option Grant) → IfSome o (Standing j ss) → IfSome o (Standing j us)
standing_among j ss us waits None st = tt
standing_among j ss us waits (Some g) st = record { file = st.file; waits = waits g.socket st.file st.waits; last = st.last; moved = st.moved; place = st.place; left = st.left; more = st.more; small = st.small }

module _ (cells : ℕ → Cell) (p₀ : Meaning) (j : Journal) where
  -- an event of no socket, and the same sockets
  quietly : (c : Cabinet) (p : Meaning) (r : Result Reply Refusal) → event_of r ≡ nothing → Kept cells p₀ j c p → Keeps cells p₀ j p (quiet_outcome r c)
  quietly c p r none old e q is after same =
      let event : event_of e.reply ≡ nothing = ap event_of is ∙ none in
      record {
        tied = rw same old.tied;
        sound = old.sound;
        standing = standing_on e j c.sockets.items event c.grant old.standing;
        accounts = λ s. rw same (quiet cells s e j (p₀.words s) (p.words s) p.opened event (old.accounts s));
      }

  -- other sockets, that go on waiting
  among : (c : Cabinet) (p : Meaning) (ss : List Socket) (n : ℕ) → ((s : ℕ) → Sound c.capacity (get_or ss s (fresh_socket c.capacity))) → ((s : ℕ) (f : File) → awaited_file (socket_of c s) ≡ Some f → awaited_file (get_or ss s (fresh_socket c.capacity)) ≡ Some f) → Kept cells p₀ j c p → Kept cells p₀ j (record (with_sockets c ss) { ticks = n }) p
  among c p ss n sound waits old = record {
    tied = old.tied;
    sound = sound;
    standing = standing_among j c.sockets.items ss (λ s f is. awaited_here c.capacity ss s ∙ waits s f (sym (awaited_here c.capacity c.sockets.items s) ∙ is)) c.grant old.standing;
    accounts = old.accounts;
  }

  -- one socket changed so that it goes on waiting
  changed : (c : Cabinet) (p : Meaning) (s : ℕ) (f : Socket → Socket) (r : Result Reply Refusal) → event_of r ≡ nothing → ((x : Socket) → Sound c.capacity x → Sound c.capacity (f x)) → ((x : Socket) (g : File) → awaited_file x ≡ Some g → awaited_file (f x) ≡ Some g) → Kept cells p₀ j c p → Keeps cells p₀ j p (quiet_outcome r (with_sockets c (with_change f s c.sockets.items)))
  changed c p s f r none sound waits old =
      let ss : List Socket = with_change f s c.sockets.items in
      let sounds : (t : ℕ) → Sound c.capacity (get_or ss t (fresh_socket c.capacity)) = λ t. change_keeps (Sound c.capacity) f s c.sockets.items t (fresh_socket c.capacity) (old.sound t) (sound (socket_of c t) (old.sound t)) in
      let waiting : (t : ℕ) (g : File) → awaited_file (socket_of c t) ≡ Some g → awaited_file (get_or ss t (fresh_socket c.capacity)) ≡ Some g = λ t g is. change_keeps (λ x. awaited_file x ≡ Some g) f s c.sockets.items t (fresh_socket c.capacity) is (waits (socket_of c t) g is) in
      quietly (with_sockets c ss) p r none (among c p ss c.ticks sounds waiting old)

  -- the first part of a tick
  stepped : (c : Cabinet) (p : Meaning) (n : ℕ) → Kept cells p₀ j c p → Kept cells p₀ j (record (after_steps c) { ticks = n }) p
  stepped c p n old = among c p (map (after_step c.capacity) c.sockets.items) n
      (λ t. map_keeps (Sound c.capacity) (after_step c.capacity) c.sockets.items t (fresh_socket c.capacity) (λ out. sound_fresh c.capacity) (sound_call c.capacity stepping (socket_of c t) tt (old.sound t)))
      (λ t g is. map_keeps (λ x. awaited_file x ≡ Some g) (after_step c.capacity) c.sockets.items t (fresh_socket c.capacity) (λ out. rw out at is) (still_after_step c.capacity (socket_of c t) g is))
      old

  was_reset : (c : Cabinet) (p : Meaning) → Kept cells p₀ j c p → Keeps cells p₀ j p (reset_outcome c)
  was_reset c p old e q is after calls =
      let books = by_grant c.grant refl is calls in
      record {
        tied = books.0;
        sound = λ t. map_keeps (Sound c.capacity) reset_socket c.sockets.items t (fresh_socket c.capacity) (λ out. sound_fresh c.capacity) (sound_call c.capacity resetting (socket_of c t) tt (old.sound t));
        standing = tt;
        accounts = λ s. rw books.0 (books.1 s);
      }
    where
      by_grant : (o : Option Grant) → c.grant ≡ o → e.reply ≡ Ok (reply.Reset (option_map (λ g. g.socket) o)) → After (cond (is_some o) (closing ∷ []) []) p q → (q.opened ≡ None) × ((s : ℕ) → Account cells s (e ∷ j) (p₀.words s) (q.words s) None)
      by_grant None free is same =
          let none_open : p.opened ≡ None = old.tied ∙ ap (option_map (λ (g : Grant). g.socket)) free in
          (rw same none_open, λ s. rw same (quiet cells s e j (p₀.words s) (p.words s) None (ap event_of is) (rw none_open at (old.accounts s))))
      by_grant (Some g) has is calls =
          let is_open : p.opened ≡ Some g.socket = old.tied ∙ ap (option_map (λ (x : Grant). x.socket)) has in
          let event : event_of e.reply ≡ taking_back g.socket = ap event_of is in
          let closed : Shut p q = shut_by g.socket p is_open q calls in (
            closed.opened,
            each (λ t. Account cells t (e ∷ j) (p₀.words t) (q.words t) None) g.socket
                (rw (closed.words g.socket) (taken cells g.socket e j (p₀.words g.socket) (p.words g.socket) event (rw is_open at (old.accounts g.socket))))
                (λ t apart. rw (closed.words t) (taken_other cells t e j (p₀.words t) (p.words t) g.socket event apart (rw is_open at (old.accounts t)))),
          )

  wrote : (c : Cabinet) (p : Meaning) (s : ℕ) (r : Result Write Refusal) → FitsRequest r → Kept cells p₀ j c p → Keeps cells p₀ j p (write_outcome c s r)
  wrote c p s (Ok w) fits old = changed c p s (after_write c.capacity w) _ refl (λ x sound. sound_call c.capacity (writing w) x fits sound) (still_after_write c.capacity w) old
  wrote c p s (Err r) fits old = quietly c p (Err r) refl old

  was_read : (c : Cabinet) (p : Meaning) (s : ℕ) (r : Result Register Refusal) → Kept cells p₀ j c p → Keeps cells p₀ j p (read_outcome c s r)
  was_read c p s (Ok r) old = quietly c p _ refl old
  was_read c p s (Err r) old = quietly c p (Err r) refl old

  acknowledged : (c : Cabinet) (p : Meaning) (s : ℕ) (r : Result Level Refusal) → Kept cells p₀ j c p → Keeps cells p₀ j p (level_outcome c s r)
  acknowledged c p s (Ok l) old = changed c p s (λ x. with_level x l) _ refl (λ x sound. sound_call c.capacity (acknowledging l) x tt sound) (λ x g is. is) old
  acknowledged c p s (Err r) old = quietly c p (Err r) refl old

  told_outputs : (c : Cabinet) (p : Meaning) (s : ℕ) (r : Result Unit Refusal) → Kept cells p₀ j c p → Keeps cells p₀ j p (outputs_outcome c s r)
  told_outputs c p s (Ok known) old = quietly c p _ refl old
  told_outputs c p s (Err r) old = quietly c p (Err r) refl old

  ticked : (c : Cabinet) (p : Meaning) → Kept cells p₀ j c p → Keeps cells p₀ j p (tick_outcome c cells p)
  ticked c p old = choice (Keeps cells p₀ j p) (nat_lt c.ticks c.ceiling) _ _
      (λ few. served cells p₀ j (record (after_steps c) { ticks = c.ticks + 1 }) p (stepped c p (c.ticks + 1) old))
      (λ many. quietly c p (Err CeilingReached) refl old)

  pub keeps : (call : Call) (c : Cabinet) (p : Meaning) → FitsWord call → Kept cells p₀ j c p → Keeps cells p₀ j p (outcome call c cells p)
  keeps (call.Write s bank select w) c p fits old = wrote c p s (write_request c s bank select w) (register_fits c.capacity (register_of c s bank select) w fits) old
  keeps (call.Read s bank select) c p fits old = was_read c p s (register_of c s bank select) old
  keeps (call.Acknowledge s l) c p fits old = acknowledged c p s (level_request c s l) old
  keeps (call.Outputs s) c p fits old = told_outputs c p s (known_socket c s) old
  keeps call.Tick c p fits old = ticked c p old
  keeps call.Reset c p fits old = was_reset c p old
