-- The numbers and texts of refusals. Assumes nothing.
use Rattle.std.specs.Prelude.{ℕ, List, Ok, Err, codes, Result}
use Rattle.library.specs.declared.refusal.Refusal.{Refusal}
use Rattle.library.specs.declared.refusal.Refusal.TheVariants.{PatchesFull}

-- the number of each refusal
abbrev pub refusal_number : Refusal → ℕ
refusal_number PatchesFull = 8

-- each refusal in words
abbrev pub refusal_text : Refusal → List ℕ
refusal_text PatchesFull = codes "sixteen places are patched already"

-- the number of an answer: 0 is accepted
abbrev pub answer_number : Result Unit Refusal → ℕ
answer_number (Ok done) = 0
answer_number (Err r) = refusal_number r
