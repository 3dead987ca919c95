-- One socket changed among others, and each of them.
use Rattle.std.proofs.Common.{◌≡◌, ℕ, zero, suc, ◌<◌, ◌≤◌, ◌+◌, List, [], ◌∷◌, ◌++◌, length, get_or, set, Result, map, take, drop, sym, refl, ap, ◌∙◌, arith}
use Rattle.std.proofs.lemmas.List.{get_or_default}
use Rattle.std.proofs.lemmas.List.Edits.{map_over_more}
use Rattle.socket.specs.declared.mode.Error.{Error}
use Rattle.socket.specs.declared.socket.Socket.{Socket}
use Rattle.manager.specs.Sockets.{ended_socket, with_change}

-- socket s, changed by f, is y
pub changed_at : (f : Socket → Socket) (ss : List Socket) (s : ℕ) (d y : Socket) → s < length ss → y ≡ f (get_or ss s d) → set ss s y ≡ with_change f s ss
changed_at f [] s d y h e = refl
changed_at f (x ∷ ss) zero d y h e = ap (λ (z : Socket). z ∷ ss) e
changed_at f (x ∷ ss) (suc s) d y h e = ap (λ (ys : List Socket). x ∷ ys) (changed_at f ss s d y (omega arith) e)

pub with_change-past : (f : Socket → Socket) (ss : List Socket) (s : ℕ) → length ss ≤ s → ss ≡ with_change f s ss
with_change-past f [] s h = refl
with_change-past f (x ∷ ss) zero h = absurd (omega arith)
with_change-past f (x ∷ ss) (suc s) h = ap (λ (ys : List Socket). x ∷ ys) (with_change-past f ss s (omega arith))

-- socket s, whose load ended so, is y
pub end_at : (o p : Result Unit Error) → o ≡ p → (ss : List Socket) (s : ℕ) (d y : Socket) → s < length ss → y ≡ ended_socket p (get_or ss s d) → set ss s y ≡ with_change (ended_socket o) s ss
end_at o p is ss s d y h e = changed_at (ended_socket o) ss s d y h (e ∙ ap (λ (r : Result Unit Error). ended_socket r (get_or ss s d)) (sym is))

-- the next socket, changed by f, is y
pub one_more : (f : Socket → Socket) (xs ys : List Socket) (i : ℕ) (d y : Socket) → i < length xs → i < length ys → ys ≡ map f (take i xs) ++ drop i xs → y ≡ f (get_or ys i d) → set ys i y ≡ map f (take (i + 1) xs) ++ drop (i + 1) xs
one_more f xs ys i d y h l so_far e = ap (set ys i) e ∙ map_over_more f xs ys i (get_or ys i d) h so_far (get_or_default ys i d (get_or ys i d) l)
