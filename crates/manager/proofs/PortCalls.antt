-- The calls that a tick makes of the port.
use Rattle.std.proofs.Common.{◌≡◌, ℕ, Result, Ok, Err, sym, refl, subst}
use Rattle.library.specs.declared.fault.Fault.{Fault}
use Rattle.library.specs.Fault.{Cell}
use Rattle.port.specs.Meaning.{Meaning}
use Rattle.port.specs.Steps.{Step, putting}
use Rattle.socket.specs.declared.register.Register.{Register}
use Rattle.socket.specs.declared.write.Write.{Write}
use Rattle.manager.specs.declared.cabinet.Cabinet.{Cabinet}
use Rattle.manager.specs.declared.refusal.Refusal.{Refusal}
use Rattle.manager.specs.Outcome.{read_outcome, write_outcome}
use Rattle.manager.specs.Cabinet.{put_calls}
use Rattle.manager.specs.Calls.{After}

pub asked_nothing : (c : Cell) (f : Fault) → c ≡ Err f → (p : Meaning) → After (put_calls c) p p
asked_nothing c f is p = subst (λ (x : Cell). After (put_calls x) p p) (sym is) refl

pub asked_to_put : (c : Cell) (w : ℕ) → c ≡ Ok w → (p q : Meaning) → Step (putting w) p q → After (put_calls c) p q
asked_to_put c w is p q step = subst (λ (x : Cell). After (put_calls x) p q) (sym is) (q, step, refl)

-- what names a register asks the port nothing
pub quiet_write : (c : Cabinet) (s : ℕ) (r : Result Write Refusal) (p : Meaning) → After (write_outcome c s r).calls p p
quiet_write c s (Ok w) p = refl
quiet_write c s (Err x) p = refl

pub quiet_read : (c : Cabinet) (s : ℕ) (r : Result Register Refusal) (p : Meaning) → After (read_outcome c s r).calls p p
quiet_read c s (Ok w) p = refl
quiet_read c s (Err x) p = refl

pub same_read : (c : Cabinet) (s : ℕ) (r : Result Register Refusal) → c ≡ (read_outcome c s r).cabinet
same_read c s (Ok w) = refl
same_read c s (Err x) = refl
