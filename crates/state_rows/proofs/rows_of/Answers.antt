use Rattle.state_rows.proofs.MarkLaws.{whole-laws}
use Rattle.state_rows.proofs.rows_of.Goals as goal

pub returns : goal.returns
returns c = search whole-laws depth 12
