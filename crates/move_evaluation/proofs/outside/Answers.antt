use Rattle.move_evaluation.proofs.ValueLaws.{answer-laws}
use Rattle.move_evaluation.proofs.outside.Goals as goal

pub returns : goal.returns
returns c = search answer-laws depth 12
