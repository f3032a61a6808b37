use Rattle.check_outputs.proofs.OutputLaws.{agree-laws}
use Rattle.check_outputs.proofs.agrees.Goals as goal

pub returns-then-not-row_order : goal.returns-then-not-row_order
returns-then-not-row_order c = search agree-laws depth 12

pub returns-then-operation_two_way-ne1 : goal.returns-then-operation_two_way-ne1
returns-then-operation_two_way-ne1 c = search agree-laws depth 12

pub returns : goal.returns
returns c = search agree-laws depth 12
