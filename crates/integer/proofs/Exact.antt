-- What std's checked operations answer, as the specification says it: the exact result where it is in the width. Assumes nothing.
use Rattle.std.specs.Prelude.{◌≡◌, refl, ℤ, ◌+ℤ◌, ◌-ℤ◌, Bool, true, false, Option, Some, None}
use Rattle.std.proofs.Common.{ap, ◌∙◌, SFits, to_z, of_z, to_z-of_z}
use Rattle.std.specs.Option.{SomeIff}
use Rattle.std.specs.Int.{Width, w32, w64}
use Rattle.basics.specs.Choice.{pick}
use Rattle.integer.specs.Range.{in_width, int_sum, long_sum}
use Rattle.integer.specs.RangeLaws.{width_fits, fits_width}

pub exact : (w : Width) {z y : ℤ} (r : Option ℤ) → y ≡ z → SomeIff r (SFits w y) y → r ≡ pick (in_width w z) (Some z) None
exact w {z} {y} None e h = go (in_width w z) refl
  where
    go : (t : Bool) → in_width w z ≡ t → None ≡ pick t (Some z) None
    go true q = absurd (h (width_fits w y (ap (in_width w) e ∙ q)))
    go false q = refl
exact w {z} (Some x) e h = rw (fits_width w z (rw e at h.0), h.1, e) refl

-- The same where the check looks for it by itself, whatever the code then does with the answer; std speaks of operands by their patterns.
abbrev pub Checked : Width → Option ℤ → ℤ → Type 0
Checked w r x = SomeIff r (SFits w x) x

abbrev pub again : Width → ℤ → ℤ
again w a = to_z w (of_z w a)

pub int_added : {a b : ℤ} {r : Option ℤ} → SFits w32 a → SFits w32 b → Checked w32 r (again w32 a +ℤ again w32 b) → r ≡ int_sum (a +ℤ b)
unfolding int_sum
int_added {r = r} p q h = exact w32 r (rw (to_z-of_z p, to_z-of_z q) refl) h

pub int_subtracted : {a b : ℤ} {r : Option ℤ} → SFits w32 a → SFits w32 b → Checked w32 r (again w32 a -ℤ again w32 b) → r ≡ int_sum (a -ℤ b)
unfolding int_sum
int_subtracted {r = r} p q h = exact w32 r (rw (to_z-of_z p, to_z-of_z q) refl) h

pub long_added : {a b : ℤ} {r : Option ℤ} → SFits w64 a → SFits w64 b → Checked w64 r (again w64 a +ℤ again w64 b) → r ≡ long_sum (a +ℤ b)
unfolding long_sum
long_added {r = r} p q h = exact w64 r (rw (to_z-of_z p, to_z-of_z q) refl) h
