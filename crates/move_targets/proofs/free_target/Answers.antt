use Rattle.move_targets.proofs.TargetLaws.{free-laws}
use Rattle.move_targets.proofs.free_target.Goals as goal

pub returns-then-n-eq0 : goal.returns-then-n-eq0
returns-then-n-eq0 c = search free-laws depth 12

pub returns-in-Some : goal.returns-in-Some
returns-in-Some c = search free-laws depth 12

pub returns-in-None : goal.returns-in-None
returns-in-None c = search free-laws depth 12
