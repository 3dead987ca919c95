use Rattle.std.proofs.Common.{◌≡◌, map, length, take, drop}
use Rattle.std.specs.List.{range_with_len}
use Rattle.library.specs.Check.{all_words}
use Rattle.library.specs.Library.{SameMeaning}
use Rattle.library.proofs.Words.{followed_by}
use Rattle.library.proofs.check.ask_nine.Given as goal

-- the words read so far and what the rest gives are what all nine give
abbrev pub invariant-loop-i : goal.invariant-loop-i
invariant-loop-i g l =
    (length l.word-items ≡ 9) ×
    SameMeaning g.L.Library.layer g.L.Library.cell l.initial.below l.below ×
    (followed_by (take l.i l.word-items) (all_words (drop l.i (map (g.L.Library.cell l.initial.below) (range_with_len l.first 9)))) ≡ all_words (map (g.L.Library.cell l.initial.below) (range_with_len l.first 9)))
