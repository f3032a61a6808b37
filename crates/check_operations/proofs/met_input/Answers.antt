use Rattle.check_operations.proofs.MeetingLaws.{met-laws}
use Rattle.check_operations.proofs.met_input.Goals as goal

pub loop-i-init : goal.loop-i-init
loop-i-init c = search met-laws depth 12

pub returns-then-meets : goal.returns-then-meets
returns-then-meets c = search met-laws depth 12

pub loop-i-preserved : goal.loop-i-preserved
loop-i-preserved c = search met-laws depth 12

pub returns : goal.returns
returns c = search met-laws depth 12
