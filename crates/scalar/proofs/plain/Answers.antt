use Rattle.scalar.specs.Scalar.{value_of}
use mathlib.Core.Path.{refl}
use Rattle.scalar.proofs.plain.Goals as goal

pub returns : goal.returns
unfolding value_of
returns c = refl
