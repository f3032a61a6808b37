use Rattle.state_form.proofs.FormLaws.{queue-laws, queue-again-laws}
use Rattle.state_form.proofs.queue_form.Goals as goal

pub returns-then-byte_at-eq0 : goal.returns-then-byte_at-eq0
returns-then-byte_at-eq0 c = search queue-laws depth 12

pub returns-then-not-entry_form : goal.returns-then-not-entry_form
returns-then-not-entry_form c = search queue-laws depth 12

pub loop-k-preserved : goal.loop-k-preserved
loop-k-preserved c = search queue-again-laws depth 12

pub returns : goal.returns
returns c = search queue-laws depth 12
