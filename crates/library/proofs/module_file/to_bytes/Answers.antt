use Rattle.std.proofs.Common.{ap, ◌∙◌}
use Rattle.std.proofs.lemmas.List.{take_all}
use Rattle.std.specs.List.{flat_map}
use Rattle.library.specs.ModuleFile.{word_bytes}
use Rattle.library.proofs.Images.{holds}
use Rattle.library.proofs.module_file.to_bytes.Goals as goal

pub returns-clause-holds : goal.returns-clause-holds
returns-clause-holds c = holds _ c.args.words.now (c.loop-word.invariant ∙ ap (flat_map word_bytes) (take_all c.loop-word.word-index c.args.words.now c.loop-word-test.false))
