use Rattle.check_operations.proofs.MeetingLaws.{meets-laws}
use Rattle.check_operations.proofs.meets.Goals as goal

pub returns-then-operation_id : goal.returns-then-operation_id
returns-then-operation_id c = search meets-laws depth 12

pub returns : goal.returns
returns c = search meets-laws depth 12
