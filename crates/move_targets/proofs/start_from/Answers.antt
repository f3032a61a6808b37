use Rattle.move_targets.proofs.TargetLaws.{from-laws}
use Rattle.move_targets.proofs.start_from.Goals as goal

pub returns-then-not-is_choice : goal.returns-then-not-is_choice
returns-then-not-is_choice c = search from-laws depth 12

pub returns-then-n-gt8 : goal.returns-then-n-gt8
returns-then-n-gt8 c = search from-laws depth 12

pub returns : goal.returns
returns c = search from-laws depth 12
