use Rattle.network_uses.proofs.MarkLaws.{service-laws}
use Rattle.network_uses.proofs.use_service.Goals as goal

pub returns : goal.returns
returns c = search service-laws depth 12
