use Rattle.check_behaviours.proofs.CheckLaws.{operation-laws}
use Rattle.check_behaviours.proofs.send.Goals as goal

pub returns-then-not-permits : goal.returns-then-not-permits
returns-then-not-permits c = search operation-laws depth 12

pub returns : goal.returns
returns c = search operation-laws depth 12
