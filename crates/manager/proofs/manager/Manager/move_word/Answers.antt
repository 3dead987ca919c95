use Rattle.std.proofs.Common.{sym, ◌∙◌}
use Rattle.manager.proofs.PortCalls.{asked_nothing, asked_to_put}
use Rattle.manager.proofs.manager.Manager.move_word.Goals as goal

pub returns-in_err-word-clause-port : goal.returns-in_err-word-clause-port
returns-in_err-word-clause-port g c = asked_nothing _ _ (sym c.ask.ensures.answer ∙ c.in_err-word.was) _

pub returns-in_err-put-clause-port : goal.returns-in_err-put-clause-port
returns-in_err-put-clause-port g c = asked_to_put _ _ (sym c.ask.ensures.answer ∙ c.in_ok-word.was) _ _ c.put.ensures.after

pub returns-clause-port : goal.returns-clause-port
returns-clause-port g c = asked_to_put _ _ (sym c.ask.ensures.answer ∙ c.in_ok-word.was) _ _ c.put.ensures.after
