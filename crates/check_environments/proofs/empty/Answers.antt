use Rattle.check_environments.proofs.Looking.{empty-is}
use Rattle.check_environments.proofs.empty.Goals as goal

pub returns : goal.returns
returns c = empty-is
