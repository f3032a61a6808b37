use Rattle.state_shape.proofs.QueueLaws.{queue-laws, queue-again-laws}
use Rattle.state_shape.proofs.queue_suits.Goals as goal

pub returns-then-code-eq0 : goal.returns-then-code-eq0
returns-then-code-eq0 c = search queue-laws depth 12

pub returns-then-not-entry_suits : goal.returns-then-not-entry_suits
returns-then-not-entry_suits c = search queue-laws depth 12

pub returns : goal.returns
returns c = search queue-laws depth 12

pub loop-k-preserved : goal.loop-k-preserved
loop-k-preserved c = search queue-again-laws depth 12
