use Rattle.move_targets.proofs.TargetLaws.{target-laws}
use Rattle.move_targets.proofs.target_of.Goals as goal

pub returns-in-Some : goal.returns-in-Some
returns-in-Some c = search target-laws depth 12

pub returns-in-None : goal.returns-in-None
returns-in-None c = search target-laws depth 12
