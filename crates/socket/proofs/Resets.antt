-- How long the module reset lasts.
use Rattle.std.proofs.Common.{◌≡◌, ℕ, zero, suc, ◌≤◌, Bool, Option, ap, ◌∙◌, add-one, arith}
use Rattle.std.proofs.lemmas.Bool.Decides.{nat_tests}
use Rattle.socket.specs.declared.capacity.Capacity.{Capacity}
use Rattle.socket.specs.declared.mode.Mode.TheVariants.{Active}
use Rattle.socket.specs.declared.socket.Socket.{Socket}
use Rattle.socket.specs.declared.state.State.TheVariants.{Full, ModuleReset}
use Rattle.socket.specs.Change.{after_reset_tick}
use Rattle.socket.specs.Laws.{ResetLasts, after_steps, state_of_mode}
use Rattle.socket.specs.Steps.{mode_step, after_step}

module _ (k : Capacity) (held : Bool) (pending : Option ℕ) (m : ℕ) where
  -- one step finds one tick less left
  tick_less : (d : ℕ) → after_reset_tick m (suc d) ≡ ModuleReset m d
  tick_less d = grind (arith, nat_tests)

  next : (d : ℕ) (s : Socket) → s.mode ≡ Active (ModuleReset m (suc d)) held pending → (after_step k s).mode ≡ Active (ModuleReset m d) held pending
  next d s was = ap (mode_step k s.tables s.level) was ∙ ap (λ st. Active st held pending) (tick_less d)

  found : (n d : ℕ) (s : Socket) → s.mode ≡ Active (ModuleReset m d) held pending → n ≤ d → state_of_mode s.level (after_steps k n s).mode ≡ 6
  found zero d s was few = rw was
  found (suc n) zero s was few = absurd (omega arith)
  found (suc n) (suc d) s was few = found n d (after_step k s) (next d s was) (omega arith)

  ends : (d : ℕ) (s : Socket) → s.mode ≡ Active (ModuleReset m d) held pending → (after_steps k (suc d) s).mode ≡ Active (Full m) held pending
  ends zero s was = ap (mode_step k s.tables s.level) was
  ends (suc d) s was = ends d (after_step k s) (next d s was)

pub reset_lasts : (k : Capacity) → ResetLasts k
reset_lasts k = record {
  found = λ n d m s held pending was few. found k held pending m n d s was few;
  ends = λ d m s held pending was. rw add-one (ends k held pending m d s was);
}
