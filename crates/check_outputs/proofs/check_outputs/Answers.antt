use Rattle.check_outputs.proofs.OutputLaws.{outputs-laws}
use Rattle.check_outputs.proofs.check_outputs.Goals as goal

pub loop-o-init : goal.loop-o-init
loop-o-init c = search outputs-laws depth 12

pub returns-then-not-output : goal.returns-then-not-output
returns-then-not-output c = search outputs-laws depth 12

pub loop-o-preserved : goal.loop-o-preserved
loop-o-preserved c = search outputs-laws depth 12

pub returns : goal.returns
returns c = search outputs-laws depth 12
