-- A run begins at the making.
use Rattle.std.proofs.Common.{◌≡◌, ℕ, Bool, true, false, cond, not, ◌&&◌, [], is_some, Some, None, Option, Result, Ok, Err, sym, refl, subst, arith}
use Rattle.library.specs.Fault.{Cell}
use Rattle.port.specs.Meaning.{Meaning}
use Rattle.socket.specs.declared.capacity.Capacity.{Capacity}
use Rattle.manager.specs.declared.cabinet.Cabinet.{Cabinet}
use Rattle.manager.specs.declared.refusal.Refusal.{Refusal}
use Rattle.manager.specs.declared.refusal.Refusal.TheVariants.{BadNumber, BadPort}
use Rattle.manager.specs.Journal.{Run, made, made_cabinet}
use Rattle.manager.specs.Making.{IsMade, are_numbers, can_serve, making_answer}

closed : (o : Option ℕ) (b : Bool) → (not (is_some o) && b) ≡ true → o ≡ None
closed None b h = refl
closed (Some s) b h = let z : ◌≡◌ {A = ℕ} 0 1 = cc in absurd (omega arith)

-- where the making is accepted, the port is closed
accepted : (a b : Bool) → ◌≡◌ {A = Result Unit Refusal} (Ok tt) (cond a (cond b (Ok tt) (Err BadPort)) (Err BadNumber)) → b ≡ true
accepted true true h = refl
accepted true false h = let z : ◌≡◌ {A = ℕ} 0 1 = cc in absurd (omega arith)
accepted false b h = let z : ◌≡◌ {A = ℕ} 0 1 = cc in absurd (omega arith)

pub run_made : (n m t ceiling : ℕ) (p : Meaning) (c : Cabinet) → ◌≡◌ {A = Result Unit Refusal} (Ok tt) (making_answer n m t ceiling p) → IsMade n m t ceiling c → (cells : ℕ → Cell) → Run cells p [] c p
run_made n m t ceiling p c answer is cells =
    subst (λ (d : Cabinet). Run cells p [] d p) (sym is.cabinet)
    (made is.capacity n ceiling (λ _. closed p.opened _ (accepted (are_numbers n m t ceiling) (can_serve n p) answer)))

pub run_none : (p : Meaning) (c : Cabinet) (k : Capacity) → c ≡ made_cabinet k 0 0 → (cells : ℕ → Cell) → Run cells p [] c p
run_none p c k is cells = subst (λ (d : Cabinet). Run cells p [] d p) (sym is) (made k 0 0 (λ h. absurd (omega arith)))
