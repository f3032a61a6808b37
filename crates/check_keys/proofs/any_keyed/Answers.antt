use Rattle.check_keys.proofs.KeyLaws.{keyed-laws}
use Rattle.check_keys.proofs.any_keyed.Goals as goal

pub loop-q-init : goal.loop-q-init
loop-q-init c = search keyed-laws depth 12

pub returns-then-service_key-ne0 : goal.returns-then-service_key-ne0
returns-then-service_key-ne0 c = search keyed-laws depth 12

pub loop-q-preserved : goal.loop-q-preserved
loop-q-preserved c = search keyed-laws depth 12

pub returns : goal.returns
returns c = search keyed-laws depth 12
