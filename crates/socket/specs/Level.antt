-- The numbers of levels. Assumes nothing.
use Rattle.std.specs.Prelude.{ℕ, cond, Ok, Err, Result, ◌==◌}
use Rattle.socket.specs.declared.level.Level.{Level}
use Rattle.socket.specs.declared.level.Level.TheVariants.{Low, High}
use Rattle.socket.specs.declared.refusal.Refusal.{Refusal}
use Rattle.socket.specs.declared.refusal.Refusal.TheVariants.{BadLevel}

-- the number of each level
abbrev pub level_number : Level → ℕ
level_number Low = 0
level_number High = 1

-- the level with a number; above 1 there is none
abbrev pub level_of : ℕ → Result Level Refusal
level_of n = cond (n == 0) (Ok Low) (cond (n == 1) (Ok High) (Err BadLevel))
