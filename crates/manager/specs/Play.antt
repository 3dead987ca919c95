-- Many calls, one after another. Assumes nothing.
use Rattle.std.specs.Prelude.{◌≡◌, ℕ, List, [], ◌∷◌, ◌++◌, map, reverse, Result}
use Rattle.library.specs.Fault.{Cell}
use Rattle.port.specs.Meaning.{Meaning}
use Rattle.manager.specs.declared.cabinet.Cabinet.{Cabinet}
use Rattle.manager.specs.declared.call.Call.{Call}
use Rattle.manager.specs.declared.call.Reply.{Reply}
use Rattle.manager.specs.declared.refusal.Refusal.{Refusal}
use Rattle.manager.specs.Journal.{Journal, Run}
use Rattle.manager.specs.Law.{Law}
use Rattle.manager.specs.Outcome.{Happens}

-- each call got its reply, and made what it makes of the cabinet and of what the port means
abbrev pub Plays : (ℕ → Cell) → List Call → List (Result Reply Refusal) → Cabinet → Meaning → Cabinet → Meaning → Type 0
Plays cells [] [] c p d q = (d ≡ c) × (q ≡ p)
Plays cells (a ∷ calls) (r ∷ rs) c p d q = (x : Cabinet) × (m : Meaning) × Happens cells a c p r x m × Plays cells calls rs x m d q
Plays cells calls rs c p d q = ⊥

-- Some entries are those of these calls with their replies; entries stand newest first.
pub record Tells (es : Journal) (asked : List Call) (told : List (Result Reply Refusal)) : Type 0 where
  pub calls : map (λ e. e.call) es ≡ reverse asked
  pub replies : map (λ e. e.reply) es ≡ reverse told

-- whatever run led here, it goes on with these calls, and the law holds after them
abbrev pub PlaysLawfully : (ℕ → Cell) → List Call → List (Result Reply Refusal) → Cabinet → Meaning → Cabinet → Meaning → Type 0
PlaysLawfully cells calls replies c p d q =
    (p₀ : Meaning) (j : Journal) → Run cells p₀ j c p →
    (es : Journal) × Tells es calls replies × Run cells p₀ (es ++ j) d q × Law cells p₀ (es ++ j) d q
