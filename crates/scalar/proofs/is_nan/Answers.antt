use lib.Ieee.{nan_bits}
use borrow.Author.Tests.{eq-eqb, ne_eqb}
use Rattle.scalar.proofs.is_nan.Goals as goal

pub returns-then-n-eq2047 : goal.returns-then-n-eq2047
unfolding nan_bits
returns-then-n-eq2047 c = simp (eq-eqb _ _ c.if-n-eq2047.true)

pub returns-else-n-eq2047 : goal.returns-else-n-eq2047
unfolding nan_bits
returns-else-n-eq2047 c = simp (ne_eqb _ _ c.if-n-eq2047.false)
