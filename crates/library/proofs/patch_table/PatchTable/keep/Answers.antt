use Rattle.std.proofs.Common.{refl, ◌≡◌, length, Err, rules, ◌∙◌}
use Rattle.library.specs.declared.refusal.Refusal.TheVariants.{PatchesFull}
use Rattle.library.specs.Patch.{kept_entries}
use Rattle.library.proofs.Entries.{appended, full, replaced, taken}
use Rattle.library.proofs.patch_table.PatchTable.keep.Goals as goal

pub returns-in_err-try_push-in-None-clause-answer : goal.returns-in_err-try_push-in-None-clause-answer
returns-in_err-try_push-in-None-clause-answer c =
    let is : c.from_residual.result ≡ Err PatchesFull = search rules in
    let many : length (kept_entries c.args.self.now) ≡ 16 = search rules in
    is ∙ full c.args.self.now c.args.place c.args.word c.in-None.ensures many

pub returns-in-Some-clause-answer : goal.returns-in-Some-clause-answer
returns-in-Some-clause-answer c = taken c.args.self.now c.args.place c.args.word c.in-Some.at c.in-Some.ensures

pub returns-in-Some-clause-after : goal.returns-in-Some-clause-after
returns-in-Some-clause-after c = replaced c.args.self.now c.args.place c.args.word c.in-Some.at c.in-Some.ensures _ _ c.deref_mut.ensures.value refl

pub returns-in_ok-try_push-in-None-clause-after : goal.returns-in_ok-try_push-in-None-clause-after
returns-in_ok-try_push-in-None-clause-after c = appended c.args.self.now c.args.place c.args.word c.in-None.ensures _ (search rules)
