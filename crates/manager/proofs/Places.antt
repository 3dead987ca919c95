-- Sockets read at a place after one or each of them changed.
use Rattle.std.proofs.Common.{◌≡◌, ℕ, zero, suc, ◌<◌, Bool, true, false, cond, List, [], ◌∷◌, length, get_or, Some, IfSome, is_some, map, refl, ap, arith}
use Rattle.std.specs.List.{find}
use Rattle.socket.specs.declared.capacity.Capacity.{Capacity}
use Rattle.socket.specs.declared.socket.Socket.{Socket}
use Rattle.socket.specs.declared.tables.File.{File}
use Rattle.socket.specs.Socket.{fresh_socket}
use Rattle.socket.specs.Steps.{awaited_file}
use Rattle.manager.specs.Sockets.{awaited_at, circle, next_waiting, with_change}

-- what holds of a socket, whether or not it is the one that changed
pub change_keeps : (P : Socket → Type 0) (f : Socket → Socket) (t : ℕ) (ss : List Socket) (s : ℕ) (d : Socket) → P (get_or ss s d) → P (f (get_or ss s d)) → P (get_or (with_change f t ss) s d)
change_keeps P f t [] s d old new = old
change_keeps P f zero (x ∷ ss) zero d old new = new
change_keeps P f zero (x ∷ ss) (suc s) d old new = old
change_keeps P f (suc t) (x ∷ ss) zero d old new = old
change_keeps P f (suc t) (x ∷ ss) (suc s) d old new = change_keeps P f t ss s d old new

pub map_keeps : (P : Socket → Type 0) (f : Socket → Socket) (ss : List Socket) (s : ℕ) (d : Socket) → (get_or ss s d ≡ d → P d) → P (f (get_or ss s d)) → P (get_or (map f ss) s d)
map_keeps P f [] s d out new = out refl
map_keeps P f (x ∷ ss) zero d out new = new
map_keeps P f (x ∷ ss) (suc s) d out new = map_keeps P f ss s d out new

pub length-with_change : (f : Socket → Socket) (t : ℕ) (ss : List Socket) → length (with_change f t ss) ≡ length ss
length-with_change f t [] = refl
length-with_change f zero (x ∷ ss) = refl
length-with_change f (suc t) (x ∷ ss) = ap suc (length-with_change f t ss)

-- there is no file to wait for where there is no socket, and a fresh one waits for none
pub awaited_here : (k : Capacity) (ss : List Socket) (s : ℕ) → awaited_at ss s ≡ awaited_file (get_or ss s (fresh_socket k))
awaited_here k [] s = refl
awaited_here k (x ∷ ss) zero = refl
awaited_here k (x ∷ ss) (suc s) = awaited_here k ss s

-- a waiting socket is one of them
pub waiting_below : (ss : List Socket) (s : ℕ) (f : File) → awaited_at ss s ≡ Some f → s < length ss
waiting_below [] s f is = cc
waiting_below (x ∷ ss) zero f is = omega arith
waiting_below (x ∷ ss) (suc s) f is = let below = waiting_below ss s f is in omega arith

-- what is found passes the test
find_passes : (p : ℕ → Bool) (xs : List ℕ) → IfSome (find p xs) (λ x. p x ≡ true)
find_passes p [] = tt
find_passes p (x ∷ xs) = by_test (p x) refl (find_passes p xs)
  where
    by_test : (b : Bool) → p x ≡ b → IfSome (find p xs) (λ y. p y ≡ true) → IfSome (cond b (Some x) (find p xs)) (λ y. p y ≡ true)
    by_test true passes rest = passes
    by_test false fails rest = rest

-- the next waiting socket waits
pub next_waits : (last : ℕ) (ss : List Socket) → IfSome (next_waiting last ss) (λ s. is_some (awaited_at ss s) ≡ true)
next_waits last ss = find_passes (λ s. is_some (awaited_at ss s)) (circle last (length ss))
