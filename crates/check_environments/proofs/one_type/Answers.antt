use Rattle.check_environments.proofs.Comparing.{typed-laws}
use Rattle.check_environments.proofs.one_type.Goals as goal

pub returns-in_default : goal.returns-in_default
returns-in_default c = search typed-laws depth 12

pub returns : goal.returns
returns c = search typed-laws depth 12
