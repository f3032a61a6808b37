use Rattle.check_roots.proofs.RootLaws.{behaviour-set-is}
use Rattle.check_roots.proofs.behaviour_set.Goals as goal

pub returns : goal.returns
returns c = search (behaviour-set-is) depth 12
