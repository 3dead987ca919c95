-- Each call carries every run on, and the law with it.
use Rattle.std.proofs.Common.{ℕ, Result}
use Rattle.library.specs.Fault.{Cell}
use Rattle.port.specs.Meaning.{Meaning}
use Rattle.manager.specs.declared.cabinet.Cabinet.{Cabinet}
use Rattle.manager.specs.declared.call.Call.{Call}
use Rattle.manager.specs.declared.call.Reply.{Reply}
use Rattle.manager.specs.declared.refusal.Refusal.{Refusal}
use Rattle.manager.specs.Journal.{FitsWord, called}
use Rattle.manager.specs.Law.{Lawful}
use Rattle.manager.specs.Outcome.{Happens}
use Rattle.manager.proofs.Laws.{law}
use Rattle.manager.proofs.Stages.{grants_stopped}

pub lawful : {cells : ℕ → Cell} {c d : Cabinet} {p q : Meaning} {r : Result Reply Refusal} (call : Call) → FitsWord call → Happens cells call c p r d q → Lawful cells call c p r d q
lawful call fits happens p₀ j run = let next = called call fits run happens in (next, law next (grants_stopped next))
