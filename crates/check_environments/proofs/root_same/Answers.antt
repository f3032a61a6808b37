use Rattle.check_environments.proofs.Comparing.{root_laws}
use Rattle.check_environments.proofs.root_same.Goals as goal

pub returns-in_default : goal.returns-in_default
returns-in_default c = search root_laws depth 12

pub returns : goal.returns
returns c = search root_laws depth 12
