use Rattle.check_environments.proofs.Placing.{assign-laws}
use Rattle.check_environments.proofs.assign.Goals as goal

pub returns-in-Here : goal.returns-in-Here
returns-in-Here c = search assign-laws depth 12

pub returns-in-Gap : goal.returns-in-Gap
returns-in-Gap c = search assign-laws depth 12

pub returns-in-Loose : goal.returns-in-Loose
returns-in-Loose c = search assign-laws depth 12
