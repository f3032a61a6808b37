use Rattle.move_targets.proofs.TargetLaws.{in-laws}
use Rattle.move_targets.proofs.behaviour_in.Goals as goal

pub returns-then-service_count-q : goal.returns-then-service_count-q
returns-then-service_count-q c = search in-laws depth 12

pub returns-then-n-eq0 : goal.returns-then-n-eq0
returns-then-n-eq0 c = search in-laws depth 12

pub returns-then-n-gt3 : goal.returns-then-n-gt3
returns-then-n-gt3 c = search in-laws depth 12

pub returns : goal.returns
returns c = search in-laws depth 12
