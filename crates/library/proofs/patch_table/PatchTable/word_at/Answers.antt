use Rattle.std.proofs.Common.{arith}
use Rattle.std.proofs.lemmas.Grind.{common_steps}
use Rattle.library.specs.Patch.{kept_entries}
use Rattle.library.proofs.Entries.{kept_word-position}
use Rattle.library.proofs.patch_table.PatchTable.word_at.Goals as goal

pub returns-in_err-at : goal.returns-in_err-at
returns-in_err-at c =
    let is = kept_word-position (kept_entries c.args.self.now) c.args.place in
    grind (arith, common_steps, is)

pub returns : goal.returns
returns c =
    let is = kept_word-position (kept_entries c.args.self.now) c.args.place in
    grind (arith, common_steps, is)
