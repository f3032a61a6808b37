use Rattle.check_operations.proofs.MeetingLaws.{located-laws}
use Rattle.check_operations.proofs.in_file.Goals as goal

pub loop-q-init : goal.loop-q-init
loop-q-init c = search located-laws depth 12

pub returns-then-service_location-location : goal.returns-then-service_location-location
returns-then-service_location-location c = search located-laws depth 12

pub loop-q-preserved : goal.loop-q-preserved
loop-q-preserved c = search located-laws depth 12

pub returns : goal.returns
returns c = search located-laws depth 12
