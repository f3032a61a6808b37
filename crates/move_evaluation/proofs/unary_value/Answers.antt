use Rattle.move_evaluation.proofs.ValueLaws.{operator-laws}
use Rattle.move_evaluation.proofs.unary_value.Goals as goal

pub returns-in-Not : goal.returns-in-Not
returns-in-Not c = search operator-laws depth 12

pub returns-in-Negate : goal.returns-in-Negate
returns-in-Negate c = search operator-laws depth 12
