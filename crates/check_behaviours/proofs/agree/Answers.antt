use Rattle.check_behaviours.proofs.CheckLaws.{agree-laws}
use Rattle.check_behaviours.proofs.agree.Goals as goal

pub returns-then-same : goal.returns-then-same
returns-then-same c = search agree-laws depth 12

pub returns : goal.returns
returns c = search agree-laws depth 12
