use Rattle.check_operations.proofs.OperationLaws.{permits-laws}
use Rattle.check_operations.proofs.permits.Goals as goal

pub returns : goal.returns
returns c = search permits-laws depth 12
