use Rattle.check_roots.proofs.RootLaws.{part-laws}
use Rattle.check_roots.proofs.operands_of.Goals as goal

pub returns : goal.returns
returns c = search part-laws depth 12
