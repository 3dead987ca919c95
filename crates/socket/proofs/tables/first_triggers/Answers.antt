use Rattle.std.proofs.Common.{◌%◌, arith}
use Rattle.std.proofs.lemmas.List.FromFn.{fill_by_all}
use Rattle.socket.specs.Tables.{fresh_triggers}
use Rattle.socket.proofs.tables.first_triggers.Goals as goal

pub returns : goal.returns
unfolding fresh_triggers
returns c = fill_by_all (λ t. t % c.args.modules) _ 32 0 (omega arith) (λ k h. c.loop-t.invariant k (omega arith))
