use Rattle.check_behaviours.proofs.CheckLaws.{leaf-laws}
use Rattle.check_behaviours.proofs.one_way.Goals as goal

pub returns : goal.returns
returns c = search leaf-laws depth 12
