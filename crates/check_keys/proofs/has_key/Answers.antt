use Rattle.check_keys.proofs.KeyLaws.{type-laws}
use Rattle.check_keys.proofs.has_key.Goals as goal

pub returns-then-first-n : goal.returns-then-first-n
returns-then-first-n c = search type-laws depth 12

pub returns : goal.returns
returns c = search type-laws depth 12
