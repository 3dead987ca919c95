-- What holds of a port's lists over any calls.
use Rattle.std.proofs.Common.{◌≡◌, ℕ, ◌≤◌, cond, List, ◌++◌, length, take, arith}
use Rattle.std.proofs.lemmas.Bool.Decides.{nat_tests}
use Rattle.port.specs.Load.{Loaded, after_puts}
use Rattle.port.specs.Meaning.{Meaning, after_close, after_open, closes}
use Rattle.port.specs.Steps.{OpenList, Since, opened, put, refused}

pub open_list : OpenList
open_list s ws q (opened p yes_opens step) = (grind (arith, nat_tests), grind (arith, nat_tests))
open_list s ws q (refused p t since step) = let before = open_list s ws p since in (grind (arith, nat_tests, before.0, before.1), grind (arith, nat_tests, before.0, before.1))
open_list s ws q (put p {ws = us} w since step) = let before = open_list s us p since in (grind (arith, nat_tests, before.0, before.1), grind (arith, nat_tests, before.0, before.1))

-- the words of a call behind those since the opening
pub list_since : (p q : Meaning) (s : ℕ) (ws us : List ℕ) → q ≡ after_puts us q.spent p → Since s ws p → q.words s ≡ ws ++ us
list_since p q s ws us after since = let before = open_list s ws p since in grind (arith, nat_tests, before.0, before.1)

-- opening, putting and closing
pub loaded : (s n : ℕ) (ws : List ℕ) (p p₁ p₂ q : Meaning) → p₁ ≡ after_open s p₁.room p₁.spent p → p₂ ≡ after_puts (take n ws) p₂.spent p₁ → q ≡ cond (closes p₂) (after_close q.spent p₂) p₂ → n ≤ length ws → Loaded s ws n p q
loaded s n ws p p₁ p₂ q first second third few = record { few = few; after = grind (arith, nat_tests) }
