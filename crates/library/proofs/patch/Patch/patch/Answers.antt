use Rattle.std.proofs.Common.{◌≡◌, ℕ, true, Ok, Err, Result, ap, ◌∙◌, MatchResult}
use Rattle.std.proofs.lemmas.Result.{MatchResult-weaker}
use Rattle.library.specs.declared.patch_table.PatchTable.{PatchTable}
use Rattle.library.specs.declared.refusal.Refusal.{Refusal}
use Rattle.library.specs.Patch.{WithPatch, places_differ, kept_entries}
use Rattle.library.proofs.Patches.{one_more, still_distinct}
use Rattle.library.proofs.patch.Patch.patch.Goals as goal

-- accepted or refused, the places stay different
by_answer : (place word : ℕ) (t u : PatchTable) (r : Result Unit Refusal) → MatchResult r (λ _. WithPatch place word t u) (λ _. u ≡ t) → places_differ (kept_entries t) ≡ true → places_differ (kept_entries u) ≡ true
by_answer place word t u (Ok done) e d = ap places_differ e.entries ∙ still_distinct (kept_entries t) place word d
by_answer place word t u (Err f) e d = ap (λ (x : PatchTable). places_differ (kept_entries x)) e ∙ d

pub returns-clause-places : goal.returns-clause-places
returns-clause-places g c = by_answer c.args.place c.args.word c.args.self.now.table c.keep.new.self c.keep.result c.keep.ensures.after

pub returns-clause-meaning : goal.returns-clause-meaning
returns-clause-meaning g c =
    MatchResult-weaker c.keep.result c.keep.ensures.after
    (λ _ e. one_more c.args.place c.args.word (g.L.Library.cell c.args.self.now.below) (kept_entries c.args.self.now.table) (kept_entries c.keep.new.self) e.entries) (λ _ _. tt)
