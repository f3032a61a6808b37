use Rattle.network_uses.proofs.MarkLaws.{uses-laws}
use Rattle.network_uses.proofs.uses_rows.Goals as goal

pub rows_use-x-requires : goal.rows_use-x-requires
rows_use-x-requires c = search uses-laws depth 12

pub returns : goal.returns
returns c = search uses-laws depth 12
