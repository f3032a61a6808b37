-- An integer is in the width exactly when it can be stored at the width.
use Rattle.std.specs.Prelude.{◌≡◌, true, ℤ}
use Rattle.std.proofs.Common.{ltb-true, lt-ltb, SFits}
use Rattle.std.specs.Int.{Width}
use Rattle.integer.specs.Range.{in_width}

pub width_fits : (w : Width) (z : ℤ) → in_width w z ≡ true → SFits w z
unfolding in_width
width_fits w z e = record { sfits = ltb-true _ _ e }

pub fits_width : (w : Width) (z : ℤ) → SFits w z → in_width w z ≡ true
unfolding in_width
fits_width w z f = lt-ltb _ _ f.sfits
