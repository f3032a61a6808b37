use Rattle.std.specs.Int.{w32}
use Rattle.std.proofs.Common.{refl, to_z-of_z}
use Rattle.integer.specs.Range.{int_sum}
use Rattle.integer.proofs.Exact.{exact}
use Rattle.integer.proofs.int_negate.Goals as goal

pub returns : goal.returns
unfolding int_sum
returns c = exact w32 c.checked_neg.result (rw (to_z-of_z c.ranges.a) refl) c.checked_neg.ensures
