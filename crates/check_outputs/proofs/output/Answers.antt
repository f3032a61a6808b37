use Rattle.check_outputs.proofs.OutputLaws.{output-laws}
use Rattle.check_outputs.proofs.output.Goals as goal

pub returns-then-operation_direction-eq0 : goal.returns-then-operation_direction-eq0
returns-then-operation_direction-eq0 c = search output-laws depth 12

pub returns-then-not-in_file : goal.returns-then-not-in_file
returns-then-not-in_file c = search output-laws depth 12

pub returns-in_default : goal.returns-in_default
returns-in_default c = search output-laws depth 12

pub returns : goal.returns
returns c = search output-laws depth 12
