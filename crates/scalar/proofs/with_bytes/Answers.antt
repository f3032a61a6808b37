use Rattle.std.proofs.Common.{arith}
use Rattle.std.proofs.lemmas.Grind.{common_steps}
use Rattle.scalar.specs.Scalar.{value_of}
use Rattle.scalar.proofs.with_bytes.Goals as goal

pub returns : goal.returns
unfolding value_of
returns c = grind (arith, common_steps)
