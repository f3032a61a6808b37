use Rattle.network_uses.proofs.MarkLaws.{rows-laws}
use Rattle.network_uses.proofs.rows_use.Goals as goal

pub loop-i-init : goal.loop-i-init
loop-i-init c = search rows-laws depth 12

pub loop-i-preserved : goal.loop-i-preserved
loop-i-preserved c = search rows-laws depth 12

pub returns : goal.returns
returns c = search rows-laws depth 12
