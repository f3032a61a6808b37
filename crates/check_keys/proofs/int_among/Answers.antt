use Rattle.check_keys.proofs.KeyLaws.{among-laws}
use Rattle.check_keys.proofs.int_among.Goals as goal

pub loop-t-init : goal.loop-t-init
loop-t-init c = search among-laws depth 12

pub returns-then-k-id : goal.returns-then-k-id
returns-then-k-id c = search among-laws depth 12

pub returns-then-id-k : goal.returns-then-id-k
returns-then-id-k c = search among-laws depth 12

pub loop-t-preserved : goal.loop-t-preserved
loop-t-preserved c = search among-laws depth 12

pub returns : goal.returns
returns c = search among-laws depth 12
