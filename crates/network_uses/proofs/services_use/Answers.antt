use Rattle.network_uses.proofs.MarkLaws.{services-laws}
use Rattle.network_uses.proofs.services_use.Goals as goal

pub loop-i-init : goal.loop-i-init
loop-i-init c = search services-laws depth 12

pub loop-i-preserved : goal.loop-i-preserved
loop-i-preserved c = search services-laws depth 12

pub returns : goal.returns
returns c = search services-laws depth 12
