use Rattle.std.proofs.Common.{◌≡◌, take, vec_items}
use Rattle.std.specs.List.{flat_map}
use Rattle.library.specs.ModuleFile.{word_bytes}
use Rattle.library.proofs.module_file.to_bytes.Given as goal

-- the bytes of the words so far
abbrev pub invariant-loop-word : goal.invariant-loop-word
invariant-loop-word l = vec_items l.bytes ≡ flat_map word_bytes (take l.word-index l.words)
