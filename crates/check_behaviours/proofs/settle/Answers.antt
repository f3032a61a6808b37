use Rattle.check_behaviours.proofs.CheckLaws.{settle-laws}
use Rattle.check_behaviours.proofs.settle.Goals as goal

pub returns-then-same : goal.returns-then-same
returns-then-same c = search settle-laws depth 12

pub returns : goal.returns
returns c = search settle-laws depth 12
