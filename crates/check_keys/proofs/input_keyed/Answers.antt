use Rattle.check_keys.proofs.KeyLaws.{input-laws}
use Rattle.check_keys.proofs.input_keyed.Goals as goal

pub returns-then-operation_direction-ne0 : goal.returns-then-operation_direction-ne0
returns-then-operation_direction-ne0 c = search input-laws depth 12

pub returns-then-k-eq0 : goal.returns-then-k-eq0
returns-then-k-eq0 c = search input-laws depth 12

pub returns : goal.returns
returns c = search input-laws depth 12
