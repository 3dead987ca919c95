-- A socket of a cabinet after a change.
use Rattle.std.proofs.Common.{◌≡◌, ℕ, zero, suc, ◌<◌, Bool, true, false, cond, List, [], ◌∷◌, length, get_or, eqb, Some, is_some, refl, ap, arith}
use Rattle.std.proofs.lemmas.Bool.Decides.{nat_tests}
use Rattle.std.specs.List.{find}
use Rattle.socket.specs.declared.mode.Mode.{Mode}
use Rattle.socket.specs.declared.mode.Mode.TheVariants.{Active}
use Rattle.socket.specs.declared.socket.Socket.{Socket}
use Rattle.socket.specs.declared.state.State.TheVariants.{Loading}
use Rattle.socket.specs.declared.tables.Tables.{Tables}
use Rattle.socket.specs.Steps.{awaited_module, module_file}
use Rattle.socket.specs.Stops.{is_loading}
use Rattle.manager.specs.Sockets.{awaited_at, circle, next_waiting, with_change}

-- there are as many sockets as before
pub length-with_change : (f : Socket → Socket) (t : ℕ) (ss : List Socket) → length (with_change f t ss) ≡ length ss
length-with_change f t [] = refl
length-with_change f zero (x ∷ ss) = refl
length-with_change f (suc t) (x ∷ ss) = ap suc (length-with_change f t ss)

-- a change of socket t changes socket s exactly where they are the same
pub get_or-with_change : (f : Socket → Socket) (t s : ℕ) (ss : List Socket) (d : Socket) → s < length ss → get_or (with_change f t ss) s d ≡ cond (eqb t s) (f (get_or ss s d)) (get_or ss s d)
get_or-with_change f t s [] d h = absurd (omega arith)
get_or-with_change f zero zero (x ∷ ss) d h = refl
get_or-with_change f zero (suc s) (x ∷ ss) d h = grind (arith, nat_tests)
get_or-with_change f (suc t) zero (x ∷ ss) d h = grind (arith, nat_tests)
get_or-with_change f (suc t) (suc s) (x ∷ ss) d h = let before = get_or-with_change f t s ss d (omega arith) in grind (arith, nat_tests)

-- what is found passes the test
found_passes : (p : ℕ → Bool) (xs : List ℕ) (t : ℕ) → find p xs ≡ Some t → p t ≡ true
found_passes p [] t is = cc
found_passes p (x ∷ xs) t is = by (p x) refl (found_passes p xs t) is
  where
    by : (b : Bool) → p x ≡ b → (find p xs ≡ Some t → p t ≡ true) → cond b (Some x) (find p xs) ≡ Some t → p t ≡ true
    by true passes later is = cc
    by false passes later is = later is

-- a socket that waits for a file loads
waiting_loads : (t : Tables) (m : Mode) → is_some (module_file t (awaited_module m)) ≡ true → is_loading m ≡ true
waiting_loads t (Active (Loading n) held pending) waits = refl
waiting_loads t m waits = cc

awaited_loads : (ss : List Socket) (t : ℕ) (d : Socket) → is_some (awaited_at ss t) ≡ true → is_loading (get_or ss t d).mode ≡ true
awaited_loads [] t d waits = cc
awaited_loads (x ∷ ss) zero d waits = waiting_loads x.tables x.mode waits
awaited_loads (x ∷ ss) (suc t) d waits = awaited_loads ss t d waits

-- the next waiting socket loads
pub next_loads : (last : ℕ) (ss : List Socket) (t : ℕ) (d : Socket) → next_waiting last ss ≡ Some t → is_loading (get_or ss t d).mode ≡ true
next_loads last ss t d is = awaited_loads ss t d (found_passes (λ s. is_some (awaited_at ss s)) (circle last (length ss)) t is)
