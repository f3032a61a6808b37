use Rattle.scalar.proofs.Doubles.{nan-of}
use lib.Ieee.{binary64, nan_bits, div, of_bits, of_fields, odd}
use mathlib.Core.Bool.{true, false}
use mathlib.Core.Path.{◌≡◌}
use Rattle.scalar.proofs.double_of.Goals as goal

pub float_from_bits-result : goal.float_from_bits-result
float_from_bits-result c = let n : nan_bits binary64 c.args.n ≡ false = cc in rw n tt

pub returns-then-is_nan : goal.returns-then-is_nan
unfolding div of_bits of_fields odd
returns-then-is_nan c =
    let n : nan_bits binary64 c.args.n ≡ true = cc in
    cc (nan-of c.args.n n)
