use Rattle.network_form.proofs.FormLaws.{levels-laws}
use Rattle.network_form.proofs.expression_sizes.Goals as goal

pub loop-i-init : goal.loop-i-init
loop-i-init c = search levels-laws depth 12

pub loop-i-preserved : goal.loop-i-preserved
loop-i-preserved c = search levels-laws depth 12

pub returns : goal.returns
returns c = search levels-laws depth 12
