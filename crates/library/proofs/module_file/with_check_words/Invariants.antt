use Rattle.std.proofs.Common.{◌≡◌, take, vec_items}
use Rattle.std.specs.List.{flat_map}
use Rattle.library.specs.ModuleFile.{group_words}
use Rattle.library.proofs.module_file.with_check_words.Given as goal

-- the words of the groups so far
abbrev pub invariant-loop-group : goal.invariant-loop-group
invariant-loop-group l = vec_items l.words ≡ flat_map group_words (take l.group-index l.groups)
