use Rattle.std.proofs.Common.{◌≡◌, ◌+◌, drop}
use Rattle.std.specs.List.{position_or_len}
use Rattle.library.specs.Patch.{is_for, kept_entries}
use Rattle.library.proofs.patch_table.PatchTable.position.Given as goal

-- the entries so far are for other places
abbrev pub invariant-loop-at : goal.invariant-loop-at
invariant-loop-at l =
    position_or_len (is_for l.place) (kept_entries l.self) ≡ l.at + position_or_len (is_for l.place) (drop l.at (kept_entries l.self))
