use Rattle.check_operations.proofs.MeetingLaws.{location-laws}
use Rattle.check_operations.proofs.location_of.Goals as goal

pub returns-then-service_count-q : goal.returns-then-service_count-q
returns-then-service_count-q c = search location-laws depth 12

pub returns : goal.returns
returns c = search location-laws depth 12
