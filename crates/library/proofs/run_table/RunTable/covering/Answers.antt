use Rattle.std.proofs.Common.{List, take, ap, ◌∙◌, arith, rules}
use Rattle.std.specs.List.{slice_get}
use Rattle.library.specs.declared.run_table.Run.{Run}
use Rattle.library.specs.RunTable.{run_places}
use Rattle.library.proofs.Runs.{counted, covered, passed}
use Rattle.library.proofs.run_table.RunTable.covering.Goals as goal

abbrev none : Run
none = record { kind = 0; count = 0; word = 0 }

pub returns-then-place-end : goal.returns-then-place-end
returns-then-place-end c =
    let rs = c.args.self.now.runs.now in
    covered (take c.min-counted.result rs) c.loop-run.run-index c.loop-run.start c.args.place none c.loop-run-test.true (omega arith) (omega arith) ∙
    c.loop-run.invariant.2 ∙
    ap (λ (xs : List Run). slice_get (run_places xs) c.args.place) (counted rs c.min-counted.result c.min-counted.ensures)

pub loop-run-preserved : goal.loop-run-preserved
loop-run-preserved c =
    let rs = c.args.self.now.runs.now in (
      search rules,
      omega arith,
      passed (take c.min-counted.result rs) c.loop-run.run-index c.loop-run.start c.args.place none c.loop-run-test.true c.from.result c.from.ensures (omega arith) ∙ c.loop-run.invariant.2,
    )
