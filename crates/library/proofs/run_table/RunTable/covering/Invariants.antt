use Rattle.std.proofs.Common.{◌≡◌, ◌-◌, ◌*◌, ◌≤◌, drop}
use Rattle.std.specs.List.{slice_get}
use Rattle.library.specs.RunTable.{run_places}
use Rattle.library.proofs.run_table.RunTable.covering.Given as goal

-- the runs passed end at start, which is not beyond the place, and the place is as far into those left
abbrev pub invariant-loop-run : goal.invariant-loop-run
invariant-loop-run l =
    (l.start ≤ 65535 * l.run-index) ×
    (l.start ≤ l.place) ×
    (slice_get (run_places (drop l.run-index l.run-items)) (l.place - l.start) ≡ slice_get (run_places l.run-items) l.place)
