use Rattle.check_starters.proofs.StarterLaws.{join-laws}
use Rattle.check_starters.proofs.join.Goals as goal

pub returns-then-not-one_each : goal.returns-then-not-one_each
returns-then-not-one_each c = search join-laws depth 12

pub returns : goal.returns
returns c = search join-laws depth 12
