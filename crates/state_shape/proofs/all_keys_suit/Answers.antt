use Rattle.state_shape.proofs.KeyLaws.{all-keys-laws, all-keys-again-laws}
use Rattle.state_shape.proofs.all_keys_suit.Goals as goal

pub returns-then-not-keys_suit : goal.returns-then-not-keys_suit
returns-then-not-keys_suit c = search all-keys-laws depth 12

pub loop-q-preserved : goal.loop-q-preserved
loop-q-preserved c = search all-keys-again-laws depth 12

pub returns : goal.returns
returns c = search all-keys-laws depth 12
