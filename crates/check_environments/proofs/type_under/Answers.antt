use Rattle.check_environments.proofs.Firmness.{under-type}
use Rattle.check_environments.proofs.type_under.Goals as goal

pub returns : goal.returns
returns c = search (under-type) depth 12
