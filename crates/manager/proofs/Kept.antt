-- What holds all through a run.
use Rattle.std.proofs.Common.{◌≡◌, ℕ, ◌<◌, ◌+◌, ◌/◌, Bool, true, false, cond, List, ◌∷◌, Some, None, IfSome, Result, Ok, Err, sym, refl, subst, ◌∙◌, eqb, arith}
use Rattle.std.proofs.lemmas.Bool.Decides.{nat_tests}
use Rattle.std.specs.Option.{option_map}
use Rattle.library.specs.Fault.{Cell}
use Rattle.port.specs.Meaning.{Meaning}
use Rattle.socket.specs.declared.mode.Error.{Error}
use Rattle.socket.specs.declared.socket.Socket.{Socket}
use Rattle.socket.specs.declared.tables.File.{File}
use Rattle.socket.specs.Calls.{failing, finishing}
use Rattle.socket.specs.Socket.{fresh_socket}
use Rattle.manager.specs.declared.cabinet.Cabinet.{Cabinet}
use Rattle.manager.specs.declared.grant.Grant.{Grant}
use Rattle.manager.specs.Cabinet.{after_end}
use Rattle.manager.specs.Calls.{After}
use Rattle.manager.specs.Journal.{Entry, Journal, counted, last_file}
use Rattle.manager.specs.Outcome.{Outcome}
use Rattle.manager.specs.Requests.{socket_of}
use Rattle.manager.specs.Sockets.{awaited_at, ended_socket}
use Rattle.manager.proofs.Accounts.{Account}
use Rattle.manager.proofs.Places.{awaited_here, change_keeps}
use Rattle.manager.proofs.Sound.{Small, Sound, sound_call, sound_file}

-- A grant that stands: the file that its socket waits for, and how far it has come.
pub record Standing (j : Journal) (ss : List Socket) (g : Grant) : Type 0 where
  pub file : File
  pub waits : awaited_at ss g.socket ≡ Some file
  pub last : last_file g.socket j ≡ Some file
  pub moved : g.moved ≡ counted g.socket j
  pub place : g.place ≡ file.address / 4 + g.moved
  pub left : g.left + g.moved ≡ file.size / 4
  pub more : 0 < g.left
  pub small : Small file

-- What holds after every call of a run, where there is a socket.
pub record Kept (cells : ℕ → Cell) (p₀ : Meaning) (j : Journal) (c : Cabinet) (p : Meaning) : Type 0 where
  pub tied : p.opened ≡ option_map (λ g. g.socket) c.grant
  pub sound : (s : ℕ) → Sound c.capacity (socket_of c s)
  pub standing : IfSome c.grant (Standing j c.sockets.items)
  pub accounts : (s : ℕ) → Account cells s j (p₀.words s) (p.words s) p.opened

-- that goes on through a call which does so
abbrev pub Keeps : (ℕ → Cell) → Meaning → Journal → Meaning → Outcome → Type 0
Keeps cells p₀ j p x = (e : Entry) (q : Meaning) → e.reply ≡ x.reply → e.after ≡ x.cabinet → After x.calls p q → Kept cells p₀ (e ∷ j) x.cabinet q

-- one number, and the others
pub each : (P : ℕ → Type 0) (t : ℕ) → P t → ((s : ℕ) → eqb t s ≡ false → P s) → (s : ℕ) → P s
each P t here others s = by_test (eqb t s) refl
  where
    by_test : (b : Bool) → eqb t s ≡ b → P s
    by_test true same = let is : t ≡ s = grind (arith, nat_tests) in subst P is here
    by_test false apart = others s apart

-- two ways, by a test
pub choice : {X : Type 0} (F : X → Type 0) (b : Bool) (x y : X) → (b ≡ true → F x) → (b ≡ false → F y) → F (cond b x y)
choice F true x y yes_way no_way = yes_way refl
choice F false x y yes_way no_way = no_way refl

-- the file that a socket of a cabinet waits for
pub file_facts : (c : Cabinet) (s : ℕ) (f : File) → Sound c.capacity (socket_of c s) → awaited_at c.sockets.items s ≡ Some f → Small f × (0 < f.size / 4)
file_facts c s f sound is = sound_file c.capacity (socket_of c s) f sound (sym (awaited_here c.capacity c.sockets.items s) ∙ is)

sound_end : (c : Cabinet) (o : Result Unit Error) (x : Socket) → Sound c.capacity x → Sound c.capacity (ended_socket o x)
sound_end c (Ok done) x sound = sound_call c.capacity finishing x tt sound
sound_end c (Err e) x sound = sound_call c.capacity (failing e) x tt sound

-- no grant stands any more
pub kept_end : (cells : ℕ → Cell) (p₀ : Meaning) (j : Journal) (c : Cabinet) (t : ℕ) (o : Result Unit Error) (q : Meaning) → ((s : ℕ) → Sound c.capacity (socket_of c s)) → q.opened ≡ None → ((s : ℕ) → Account cells s j (p₀.words s) (q.words s) None) → Kept cells p₀ j (after_end c t o) q
kept_end cells p₀ j c t o q sound shut accounts = record {
  tied = shut;
  sound = λ s. change_keeps (Sound c.capacity) (ended_socket o) t c.sockets.items s (fresh_socket c.capacity) (sound s) (sound_end c o (socket_of c s) (sound s));
  standing = tt;
  accounts = λ s. rw shut (accounts s);
}
