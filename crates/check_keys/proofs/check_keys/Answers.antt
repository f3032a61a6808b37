use Rattle.check_keys.proofs.KeyLaws.{keys-laws}
use Rattle.check_keys.proofs.check_keys.Goals as goal

pub returns-then-not-any_keyed : goal.returns-then-not-any_keyed
returns-then-not-any_keyed c = search keys-laws depth 12

pub loop-o-init : goal.loop-o-init
loop-o-init c = search keys-laws depth 12

pub returns-then-not-input_keyed : goal.returns-then-not-input_keyed
returns-then-not-input_keyed c = search keys-laws depth 12

pub loop-o-preserved : goal.loop-o-preserved
loop-o-preserved c = search keys-laws depth 12

pub returns : goal.returns
returns c = search keys-laws depth 12
