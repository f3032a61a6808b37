-- Bytes that are the same: as lists, and as the numbers that they stand for.
use Prim.Native.Nat.{ℕ}
use native.Mathlib.Omega.{arith}
use mathlib.Core.Path.{◌≡◌, refl, sym, ap, ◌∙◌}
use mathlib.Core.Bool.{Bool, true, false, beq}
use mathlib.Core.List.{List, [], ◌∷◌}
use lib.Dec.{eqb}
use borrow.Author.Tests.{eq-eqb, eqb-true}
use mir.Syntax.{Width}
use mir.Val.{of_z, SFits}
use lib.IntN.{ℤ}
use Rattle.basics.specs.TestLaws.{agree, and-of}
use Rattle.wire.specs.Wire.{unsigned_of}
use Rattle.scalar.specs.Operator.{integer_bytes, equal_bytes, bit}
use Rattle.scalar.specs.NumberLaws.{number-bytes}

pub same_refl : (v : List ℕ) → equal_bytes v v ≡ true
same_refl [] = refl
same_refl (a ∷ v) = rw (eq-eqb a a refl) (same_refl v)

pub same-eq : (v w : List ℕ) → equal_bytes v w ≡ true → v ≡ w
same-eq [] [] e = refl
same-eq [] (b ∷ w) e = let z : ◌≡◌ {A = ℕ} 0 1 = cc in absurd (omega arith)
same-eq (a ∷ v) [] e = let z : ◌≡◌ {A = ℕ} 0 1 = cc in absurd (omega arith)
same-eq (a ∷ v) (b ∷ w) e = let t = and-of (eqb a b) (equal_bytes v w) e in rw (eqb-true a b t.0, same-eq v w t.1) refl

pub same-integer : (w : Width) (x y : ℤ) → SFits w x → SFits w y → equal_bytes (integer_bytes w x) (integer_bytes w y) ≡ eqb (of_z w x) (of_z w y)
same-integer w x y f g =
    let ex = number-bytes w x f in
    let ey = number-bytes w y g in
    agree (equal_bytes (integer_bytes w x) (integer_bytes w y)) (eqb (of_z w x) (of_z w y))
    (λ e. eq-eqb (of_z w x) (of_z w y) (sym ex ∙ ap unsigned_of (same-eq (integer_bytes w x) (integer_bytes w y) e) ∙ ey))
    (λ e.
    let p : of_z w x ≡ of_z w y = eqb-true (of_z w x) (of_z w y) e in
    rw p (same_refl (integer_bytes w y)))

pub same_bit : (p q : Bool) → equal_bytes (bit p ∷ []) (bit q ∷ []) ≡ beq p q
same_bit true true = refl
same_bit true false = refl
same_bit false true = refl
same_bit false false = refl
