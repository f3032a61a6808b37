use Rattle.move_local.proofs.MarkLaws.{ready-laws}
use Rattle.move_local.proofs.is_ready_while.Goals as goal

pub returns-in-Undone : goal.returns-in-Undone
returns-in-Undone c = search ready-laws depth 12

pub returns-in-Done : goal.returns-in-Done
returns-in-Done c = search ready-laws depth 12

pub returns-in-Waits : goal.returns-in-Waits
returns-in-Waits c = search ready-laws depth 12

pub returns-in-Taken : goal.returns-in-Taken
returns-in-Taken c = search ready-laws depth 12

pub returns-in-Received : goal.returns-in-Received
returns-in-Received c = search ready-laws depth 12
