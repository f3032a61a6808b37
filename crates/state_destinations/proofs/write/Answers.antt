use Rattle.state_destinations.proofs.DestinationLaws.{write-laws}
use Rattle.state_destinations.proofs.write.Goals as goal

pub returns-in-Outsider : goal.returns-in-Outsider
returns-in-Outsider c = search write-laws depth 12

pub returns-in-WaitingRow : goal.returns-in-WaitingRow
returns-in-WaitingRow c = search write-laws depth 12
