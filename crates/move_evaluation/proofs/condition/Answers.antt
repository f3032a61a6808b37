use Rattle.std.proofs.Common.{rules}
use Rattle.move_evaluation.proofs.ValueLaws.{condition-given, condition-missing, condition-wrong, condition-outside, condition-no-bool}
use Rattle.move_evaluation.proofs.condition.Goals as goal

pub returns-in-Ok : goal.returns-in-Ok
returns-in-Ok c = condition-given c.args.x c.in-Ok.is c.truth_of.ensures c.ok_or.ensures.value

pub returns-in-Err-Missing : goal.returns-in-Err-Missing
returns-in-Err-Missing c = condition-missing c.args.x (search rules)

pub returns-in-Err-Wrong : goal.returns-in-Err-Wrong
returns-in-Err-Wrong c = condition-wrong c.args.x (search rules)

pub returns-in-Some : goal.returns-in-Some
returns-in-Some c = condition-outside c.args.x (search rules) c.in-Some.ensures

pub returns-in-None : goal.returns-in-None
returns-in-None c = condition-no-bool c.args.x (search rules) c.in-None.ensures
