use Rattle.state_shape.proofs.StandLaws.{stand-laws, stand-again-laws}
use Rattle.state_shape.proofs.stands.Goals as goal

pub returns-then-state-ne65536 : goal.returns-then-state-ne65536
returns-then-state-ne65536 c = search stand-laws depth 12

pub returns-then-not-slot_stands : goal.returns-then-not-slot_stands
returns-then-not-slot_stands c = search stand-laws depth 12

pub loop-k-preserved : goal.loop-k-preserved
loop-k-preserved c = search stand-again-laws depth 12

pub returns : goal.returns
returns c = search stand-laws depth 12
