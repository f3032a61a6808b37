use Rattle.state_shape.proofs.StandLaws.{top_laws}
use Rattle.state_shape.proofs.top_row.Goals as goal

pub returns-then-service_count-q : goal.returns-then-service_count-q
returns-then-service_count-q c = search top_laws depth 12

pub returns-then-n-eq0 : goal.returns-then-n-eq0
returns-then-n-eq0 c = search top_laws depth 12

pub returns : goal.returns
returns c = search top_laws depth 12
