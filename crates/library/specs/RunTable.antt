-- What a run table holds. Assumes nothing.
use Rattle.std.specs.Prelude.{ℕ, if◌then◌else◌, List, [], ◌∷◌, ◌++◌, take, replicate, Some, None, Ok, Option, ◌==◌}
use Rattle.std.specs.List.{slice_get}
use Rattle.library.specs.declared.fault.Cause.TheVariants.{BeyondEnd, Unreadable}
use Rattle.library.specs.declared.run_table.Run.{Run}
use Rattle.library.specs.Fault.{Cell, fault_at}

-- the run of each place, from place 0 on: the runs follow one another
abbrev pub run_places : List Run → List Run
run_places [] = []
run_places (r ∷ rs) = replicate r.count r ++ run_places rs

-- what place p holds, in its run or past the last
abbrev pub in_run : ℕ → Option Run → Cell
in_run p None = fault_at 0 BeyondEnd p
in_run p (Some r) = if r.kind == 0 then Ok r.word else fault_at 0 Unreadable p

-- the first sixteen records count
abbrev pub run_table_cell : List Run → ℕ → Cell
run_table_cell rs p = in_run p (slice_get (run_places (take 16 rs)) p)
