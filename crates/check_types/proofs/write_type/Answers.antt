use Rattle.check_types.proofs.Writing.{type-laws}
use Rattle.check_types.proofs.write_type.Goals as goal

pub returns-in_default : goal.returns-in_default
returns-in_default c = search type-laws depth 12

pub returns-in_default-try_from : goal.returns-in_default-try_from
returns-in_default-try_from c = search (type-laws, c.in_default-try_from.ensures) depth 12

pub returns : goal.returns
returns c = search (type-laws, c.in-Ok.ensures.1) depth 12
