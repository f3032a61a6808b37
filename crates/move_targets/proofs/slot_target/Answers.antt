use Rattle.move_targets.proofs.TargetLaws.{slot_laws}
use Rattle.move_targets.proofs.slot_target.Goals as goal

pub returns-then-byte_at-eq0 : goal.returns-then-byte_at-eq0
returns-then-byte_at-eq0 c = search slot_laws depth 12

pub returns : goal.returns
returns c = search slot_laws depth 12
