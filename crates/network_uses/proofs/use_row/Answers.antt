use Rattle.network_uses.proofs.MarkLaws.{use-laws}
use Rattle.network_uses.proofs.use_row.Goals as goal

pub returns-then-n-v : goal.returns-then-n-v
returns-then-n-v c = search use-laws depth 12

pub returns : goal.returns
returns c = search use-laws depth 12
