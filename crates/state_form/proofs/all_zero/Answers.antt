use Rattle.state_form.proofs.FormLaws.{zero-laws, zero-again-laws}
use Rattle.state_form.proofs.all_zero.Goals as goal

pub loop-i-preserved : goal.loop-i-preserved
loop-i-preserved c = search zero-again-laws depth 12

pub returns : goal.returns
returns c = search zero-laws depth 12
