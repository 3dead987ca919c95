-- The law of grants holds after every call of a run.
use Rattle.std.proofs.Common.{◌≡◌, ℕ, ◌<◌, ◌+◌, ◌/◌, ◌%◌, Bool, true, false, [], ◌∷◌, length, Option, Some, None, IfSome, refl, sym, ap, subst, ◌∙◌, eqb, nat_lt, arith}
use Rattle.std.proofs.lemmas.Bool.Decides.{nat_tests}
use Rattle.std.proofs.lemmas.List.{length-replicate}
use Rattle.std.specs.Option.{option_map}
use Rattle.library.specs.Fault.{Cell}
use Rattle.port.specs.Meaning.{Meaning}
use Rattle.socket.specs.declared.capacity.Capacity.{Capacity}
use Rattle.socket.specs.declared.mode.Mode.{Mode}
use Rattle.socket.specs.declared.mode.Mode.TheVariants.{Active}
use Rattle.socket.specs.declared.state.State.TheVariants.{Loading}
use Rattle.socket.specs.declared.tables.File.{File}
use Rattle.socket.specs.declared.tables.Tables.{Tables}
use Rattle.socket.specs.Socket.{fresh_socket}
use Rattle.socket.specs.Status.{output_bits}
use Rattle.socket.specs.Steps.{awaited_module, module_file}
use Rattle.manager.specs.declared.cabinet.Cabinet.{Cabinet}
use Rattle.manager.specs.declared.grant.Grant.{Grant}
use Rattle.manager.specs.Journal.{Entry, Journal, Run, called, made, made_cabinet, stands}
use Rattle.manager.specs.Law.{GrantsStopped, Law, open_count}
use Rattle.manager.specs.Requests.{socket_of}
use Rattle.manager.proofs.Kept.{Kept, Standing}
use Rattle.manager.proofs.Numbers.{same_number}
use Rattle.manager.proofs.Places.{awaited_here}
use Rattle.manager.proofs.Runs.{keeps}
use Rattle.manager.proofs.Sound.{same_everywhere, sound_fresh}

-- at the making nothing was handed out
kept_made : (cells : ℕ → Cell) (p₀ : Meaning) (k : Capacity) (n ceiling : ℕ) → p₀.opened ≡ None → Kept cells p₀ [] (made_cabinet k n ceiling) p₀
kept_made cells p₀ k n ceiling shut = record {
  tied = shut;
  sound = λ s. rw (same_everywhere n s (fresh_socket k)) (sound_fresh k);
  standing = tt;
  accounts = λ s. record { books = rw shut refl; holds = refl; whole = refl; told = tt };
}

-- where there is a socket, every run keeps it
pub kept : {cells : ℕ → Cell} {p₀ : Meaning} {j : Journal} {c : Cabinet} {p : Meaning} → Run cells p₀ j c p → 0 < length c.sockets.items → Kept cells p₀ j c p
kept {cells} {p₀} (made k n ceiling shut) some = kept_made cells p₀ k n ceiling (shut (rw length-replicate at some))
kept {cells} {p₀} (called {j} {c} {d} {p} {q} {r} call fits run h) some =
    let before : 0 < length c.sockets.items = rw (h.cabinet, same_number call c cells p) at some in
    let e : Entry = record { call = call; reply = r; before = c; after = d } in
    subst (λ (x : Cabinet). Kept cells p₀ (e ∷ j) x q) (sym h.cabinet) (keeps cells p₀ j call c p fits (kept run before) e q h.reply h.cabinet h.port)

-- a grant stands only of the socket whose partition is open
open_here : (s a b : ℕ) (o : Option ℕ) → b ≡ a + open_count s o → nat_lt a b ≡ true → o ≡ Some s
open_here s a b None books stands_it = absurd (grind (arith, nat_tests))
open_here s a b (Some t) books stands_it = by_test (eqb t s) refl
  where
    by_test : (v : Bool) → eqb t s ≡ v → Some t ≡ Some s
    by_test true same = ap (λ (x : ℕ). Some x) (grind (arith, nat_tests))
    by_test false apart = let even : open_count s (Some t) ≡ 0 = rw apart refl in absurd (grind (arith, nat_tests))

-- a socket that waits is uncoupled
uncoupled_there : (t : Tables) (m : Mode) (f : File) → module_file t (awaited_module m) ≡ Some f → output_bits m / 2 % 2 ≡ 1
uncoupled_there t (Active (Loading n) held pending) f waits = refl
uncoupled_there t m f waits = cc

module _ {cells : ℕ → Cell} {p₀ : Meaning} {j : Journal} {c : Cabinet} {p : Meaning} (k : Kept cells p₀ j c p) where
  opened_at : (s : ℕ) → stands s j ≡ true → p.opened ≡ Some s
  opened_at s stands_it = open_here s _ _ p.opened ((k.accounts s).books) stands_it

  one_stands : (s t : ℕ) → stands s j ≡ true → stands t j ≡ true → s ≡ t
  one_stands s t first second = let a : p.opened ≡ Some s = opened_at s first in let b : p.opened ≡ Some t = opened_at t second in cc

  uncoupled_at : (s : ℕ) → stands s j ≡ true → output_bits (socket_of c s).mode / 2 % 2 ≡ 1
  uncoupled_at s stands_it = by_grant c.grant (sym k.tied ∙ opened_at s stands_it) k.standing
    where
      by_grant : (o : Option Grant) → option_map (λ (g : Grant). g.socket) o ≡ Some s → IfSome o (Standing j c.sockets.items) → output_bits (socket_of c s).mode / 2 % 2 ≡ 1
      by_grant None is st = cc
      by_grant (Some g) is st =
          let here : g.socket ≡ s = cc in
          let waits = rw here at (sym (awaited_here c.capacity c.sockets.items g.socket) ∙ st.waits) in
          uncoupled_there (socket_of c s).tables (socket_of c s).mode st.file waits

-- the whole law, where each grant went to a stopped module
pub law : {cells : ℕ → Cell} {p₀ : Meaning} {j : Journal} {c : Cabinet} {p : Meaning} → Run cells p₀ j c p → ((s : ℕ) → s < length c.sockets.items → GrantsStopped s j) → Law cells p₀ j c p
law {cells} {p₀} {j} {c} {p} run stopped = record {
  one = λ s t below under first second. one_stands (here s below) s t first second;
  books = λ s below. ((here s below).accounts s).books;
  holds = λ s below. ((here s below).accounts s).holds;
  whole = λ s below. ((here s below).accounts s).whole;
  told = λ s below. ((here s below).accounts s).told;
  stopped = stopped;
  uncoupled = λ s below stands_it. uncoupled_at (here s below) s stands_it;
}
  where
    here : (s : ℕ) → s < length c.sockets.items → Kept cells p₀ j c p
    here s below = kept run (omega arith)
