use Rattle.network_uses.proofs.MarkLaws.{row_laws, sorts-laws}
use Rattle.network_uses.proofs.use_fields.Goals as goal

pub returns : goal.returns
returns c = search (row_laws, sorts-laws) depth 12
