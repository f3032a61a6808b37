use Rattle.scalar.proofs.Operating.{not_bool, not-bool, not-other}
use Rattle.scalar.proofs.logical_not.Goals as goal

pub returns-in-Bool : goal.returns-in-Bool
returns-in-Bool c = not_bool c.args.a c.in-Bool.is

pub returns-in_default : goal.returns-in_default
returns-in_default c = not-other c.args.a (not-bool _ c.in_default.not-Bool)
