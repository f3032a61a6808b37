use Rattle.check_environments.proofs.Uniting.{union-laws}
use Rattle.check_environments.proofs.unite.Goals as goal

pub returns-in_default : goal.returns-in_default
returns-in_default c = search union-laws depth 12

pub returns : goal.returns
returns c = search union-laws depth 12
