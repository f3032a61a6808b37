use Rattle.state_form.proofs.FormLaws.{rows-laws, rows-again-laws}
use Rattle.state_form.proofs.rows_form.Goals as goal

pub returns-then-not-progress_form : goal.returns-then-not-progress_form
returns-then-not-progress_form c = search rows-laws depth 12

pub loop-i-preserved : goal.loop-i-preserved
loop-i-preserved c = search rows-again-laws depth 12

pub returns : goal.returns
returns c = search rows-laws depth 12
