use Rattle.scalar.proofs.Doubles.{not-nan}
use lib.Ieee.Compare.{differs_from_itself}
use lib.Ieee.{nan, binary64, to_bits}
use lib.Dec.{T}
use mathlib.Core.Path.{◌≡◌, sym, ap, subst}
use Rattle.scalar.proofs.double_bits.Goals as goal

pub float_to_bits-result : goal.float_to_bits-result
float_to_bits-result c = not-nan c.args.x c.if-x.false

pub returns-then-x : goal.returns-then-x
unfolding to_bits
returns-then-x c =
    let e : c.args.x ≡ nan = differs_from_itself c.args.x (subst T (sym c.if-x.true) tt) in
    sym (ap (to_bits binary64) e)
