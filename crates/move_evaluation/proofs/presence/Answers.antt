use Rattle.move_evaluation.proofs.EvaluationLaws.{path-laws}
use Rattle.move_evaluation.proofs.presence.Goals as goal

pub returns-in_default : goal.returns-in_default
returns-in_default c = search path-laws depth 12

pub returns : goal.returns
returns c = search path-laws depth 12
