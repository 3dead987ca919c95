-- The numbers of refusals. Assumes nothing.
use Rattle.std.specs.Prelude.{ℕ}
use Rattle.socket.specs.declared.refusal.Refusal.{Refusal}
use Rattle.socket.specs.declared.refusal.Refusal.TheVariants.{NoRegister, BadWord, BadLevel}

-- the number of each refusal
abbrev pub refusal_number : Refusal → ℕ
refusal_number NoRegister = 4
refusal_number BadWord = 5
refusal_number BadLevel = 7
