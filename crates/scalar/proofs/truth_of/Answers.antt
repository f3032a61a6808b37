use Rattle.scalar.proofs.ByScalar.{truth-bool, truth-other}
use Rattle.scalar.proofs.Operating.{not-bool}
use Rattle.scalar.proofs.truth_of.Goals as goal

pub returns-in-Bool : goal.returns-in-Bool
returns-in-Bool c = truth-bool c.args.v c.in-Bool.is

pub returns-in_default : goal.returns-in_default
returns-in_default c = truth-other c.args.v (not-bool _ c.in_default.not-Bool)
