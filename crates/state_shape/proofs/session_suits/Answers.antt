use Rattle.state_shape.proofs.StandLaws.{session-laws}
use Rattle.state_shape.proofs.session_suits.Goals as goal

pub returns-then-not-queue_suits : goal.returns-then-not-queue_suits
returns-then-not-queue_suits c = search session-laws depth 12

pub returns : goal.returns
returns c = search session-laws depth 12
