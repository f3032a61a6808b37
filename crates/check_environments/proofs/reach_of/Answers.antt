use Rattle.check_environments.proofs.Looking.{reach-laws}
use Rattle.check_environments.proofs.reach_of.Goals as goal

pub returns-in_default : goal.returns-in_default
returns-in_default c = search reach-laws depth 12

pub returns : goal.returns
returns c = search reach-laws depth 12
