use Rattle.move_evaluation.proofs.ValueLaws.{operator-laws}
use Rattle.move_evaluation.proofs.binary_value.Goals as goal

pub returns-in-Add : goal.returns-in-Add
returns-in-Add c = search operator-laws depth 12

pub returns-in-Subtract : goal.returns-in-Subtract
returns-in-Subtract c = search operator-laws depth 12

pub returns-in-Less : goal.returns-in-Less
returns-in-Less c = search operator-laws depth 12

pub returns-in-Equal : goal.returns-in-Equal
returns-in-Equal c = search operator-laws depth 12

pub returns-in-And : goal.returns-in-And
returns-in-And c = search operator-laws depth 12
