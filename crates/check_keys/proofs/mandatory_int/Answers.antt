use Rattle.check_keys.proofs.KeyLaws.{among-laws}
use Rattle.check_keys.proofs.mandatory_int.Goals as goal

pub returns : goal.returns
returns c = search among-laws depth 12
