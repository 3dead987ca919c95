use Rattle.std.proofs.Common.{rules}
use Rattle.port.proofs.Histories.{list_since, open_list}
use Rattle.port.proofs.loading.put_all.Goals as goal

pub returns-then-is_err-clause-open_list : goal.returns-then-is_err-clause-open_list
returns-then-is_err-clause-open_list g c s ws = list_since (g.P.Port.means c.args.port.now) (g.P.Port.means c.put.new.self) s ws _ (search rules)

pub returns-then-is_err-clause-histories : goal.returns-then-is_err-clause-histories
returns-then-is_err-clause-histories g c = open_list

pub returns-clause-open_list : goal.returns-clause-open_list
returns-clause-open_list g c s ws = list_since (g.P.Port.means c.args.port.now) (g.P.Port.means c.loop-i.port) s ws _ (search rules)

pub returns-clause-histories : goal.returns-clause-histories
returns-clause-histories g c = open_list
