use Rattle.check_environments.proofs.Comparing.{same-is}
use Rattle.check_environments.proofs.same.Goals as goal

pub returns : goal.returns
returns c = same-is _ _ _ c.eq.ensures
