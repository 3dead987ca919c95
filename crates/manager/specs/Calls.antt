-- Calls of a port, one after another. Assumes nothing.
use Rattle.std.specs.Prelude.{◌≡◌, List, [], ◌∷◌}
use Rattle.port.specs.Meaning.{Meaning}
use Rattle.port.specs.Steps.{Call, Step}

-- what some calls, made in order, made of a port's meaning
abbrev pub After : List Call → Meaning → Meaning → Type 0
After [] p q = q ≡ p
After (c ∷ cs) p q = (m : Meaning) × Step c p m × After cs m q
