use Rattle.move_evaluation.proofs.ValueLaws.{constant-laws}
use Rattle.move_evaluation.proofs.constant.Goals as goal

pub overflow_sub-file : goal.overflow_sub-file
overflow_sub-file c = search constant-laws depth 12

pub value_ok-requires : goal.value_ok-requires
value_ok-requires c = search constant-laws depth 12

pub read-requires : goal.read-requires
read-requires c = (search constant-laws depth 12, cc)

pub alone-requires : goal.alone-requires
alone-requires c = search constant-laws depth 12

pub returns-then-value_ok : goal.returns-then-value_ok
returns-then-value_ok c = search constant-laws depth 12

pub returns : goal.returns
returns c = search constant-laws depth 12
