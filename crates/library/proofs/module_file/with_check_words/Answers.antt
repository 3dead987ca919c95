use Rattle.std.proofs.Common.{sym, ap, ◌∙◌, subst}
use Rattle.std.proofs.lemmas.List.{take_all}
use Rattle.std.specs.List.{flat_map}
use Rattle.library.specs.Laws.{ReadsBack}
use Rattle.library.specs.ModuleFile.{group_words}
use Rattle.library.proofs.Files.{reads_back}
use Rattle.library.proofs.module_file.with_check_words.Goals as goal

pub returns-clause-reads_back : goal.returns-clause-reads_back
returns-clause-reads_back c =
    let gs = c.args.groups.now in
    let items = c.loop-group.invariant ∙ ap (flat_map group_words) (take_all c.loop-group.group-index gs c.loop-group-test.false) in
    subst (ReadsBack gs) (sym items) (reads_back gs c.told-groups)
