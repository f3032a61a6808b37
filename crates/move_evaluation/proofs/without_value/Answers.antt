use Rattle.std.proofs.Common.{rules}
use Rattle.move_evaluation.proofs.ValueLaws.{kind-laws}
use Rattle.move_evaluation.proofs.without_value.Goals as goal

pub returns-in-Ok : goal.returns-in-Ok
returns-in-Ok c = search (kind-laws, rules) depth 12

pub returns-in-Err-Wrong : goal.returns-in-Err-Wrong
returns-in-Err-Wrong c = search (kind-laws, rules) depth 12

pub returns-in-Err-Outside : goal.returns-in-Err-Outside
returns-in-Err-Outside c = search (kind-laws, rules) depth 12
