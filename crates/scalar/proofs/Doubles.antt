-- NaNs: a double that equals itself is none, and a NaN's pattern stands for the one.
use Prim.Native.Nat.{ℕ}
use mathlib.Core.Path.{◌≡◌, refl, sym, ◌∙◌}
use mathlib.Core.Bool.{true, false, not}
use native.Mathlib.Omega.{arith}
use lib.Dec.{T}
use lib.Ieee.{Float, nan, inf, fin, binary64, is_nan, ne, eq, nan_bits, of_bits}
use lib.Ieee.Bits.{nan_bits_is}

pub not-nan : (x : Float) → ne x x ≡ false → T (not (is_nan x))
unfolding is_nan ne eq
not-nan nan e = let z : ◌≡◌ {A = ℕ} 0 1 = cc in absurd (omega arith)
not-nan (inf s) e = tt
not-nan (fin s m d) e = tt

the-nan : (x : Float) → is_nan x ≡ true → x ≡ nan
unfolding is_nan
the-nan nan e = refl
the-nan (inf s) e = let z : ◌≡◌ {A = ℕ} 0 1 = cc in absurd (omega arith)
the-nan (fin s m d) e = let z : ◌≡◌ {A = ℕ} 0 1 = cc in absurd (omega arith)

pub nan-of : (n : ℕ) → nan_bits binary64 n ≡ true → of_bits binary64 n ≡ nan
nan-of n e = the-nan (of_bits binary64 n) (sym (nan_bits_is binary64 n) ∙ e)
