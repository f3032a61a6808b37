-- What each way out of an operator's code gives is what the operator's definition gives.
use Prim.Native.Nat.{ℕ}
use native.Mathlib.Omega.{arith}
use mathlib.Core.Path.{◌≡◌, refl, sym, ap, ◌∙◌}
use mathlib.Core.Bool.{true, false, not, ◌&&◌, beq}
use mathlib.Core.Bool as B
use mathlib.Core.List.{List, [], ◌∷◌}
use lib.IntN.{ℤ, neg_ℤ, ◌+ℤ◌, ◌-ℤ◌}
use lib.Signed.{lt_z}
use lib.Dec.{T, eqb}
use lib.Ieee.{Float, binary64, fits}
use lib.Ieee as Ieee
use borrow.Author.Tests.{ne_eqb, eq-eqb}
use mir.Syntax.{Width, w32, w64}
use mir.Val.{SFits, of_z}
use Rattle.basics.specs.Choice.{pick}
use Rattle.integer.specs.Range.{in_width, int_sum, long_sum}
use Rattle.scalar.specs.declared.Scalar.{Scalar}
use Rattle.scalar.specs.declared.Scalar.TheVariants.{Bool, Int, Double, Long, String, Raw, Void}
use Rattle.scalar.specs.declared.Operand.{Operand}
use Rattle.scalar.specs.declared.Failure.TheVariants.{Wrong, Outside}
use Rattle.scalar.specs.Basic.{bool, int, double, long, string, raw, void}
use Rattle.scalar.specs.Value.{Value, value, basic_of, integral, no_arithmetic, basic_type}
use Rattle.wire.specs.Wire.{unsigned_of}
use Rattle.scalar.specs.Operator.{Answer, wrong, outside, gives, of_bool, of_int, of_long, of_double, integer_bytes, signed, exactly, bool_of, bit, equal_bytes, alike, Numeric, numeric_by, numeric_of, adding, subtracting, comparing, equal_by, and_by, not_of, negate_of, and_of, add_of, subtract_of, less_of, equal_of}
use Rattle.scalar.specs.NumberLaws.{exact, double-back}
use Rattle.scalar.specs.Scalar.{value_beside, beside, value_of, answer_of, int_answer, long_answer, kind_of}
use Rattle.scalar.specs.ScalarLaws.{basic-kind}
use Rattle.scalar.proofs.Same.{same-integer, same_bit}
use Rattle.std.specs.Prelude.{Option, Some, None, Ok, Err}

-- ---- a scalar that is of no such kind

pub not-bool : (x : Scalar) → ((p : B.Bool) → x ≡ Bool p → ⊥) → kind_of x ≡ bool → ⊥
not-bool (Bool z) n e = n z refl
not-bool (Int z) n e = omega arith
not-bool (Double z) n e = omega arith
not-bool (Long z) n e = omega arith
not-bool String n e = omega arith
not-bool Raw n e = omega arith
not-bool Void n e = omega arith

pub not-int : (x : Scalar) → ((z : ℤ) → x ≡ Int z → ⊥) → kind_of x ≡ int → ⊥
not-int (Bool z) n e = omega arith
not-int (Int z) n e = n z refl
not-int (Double z) n e = omega arith
not-int (Long z) n e = omega arith
not-int String n e = omega arith
not-int Raw n e = omega arith
not-int Void n e = omega arith

pub not-double : (x : Scalar) → ((z : Float) → x ≡ Double z → ⊥) → kind_of x ≡ double → ⊥
not-double (Bool z) n e = omega arith
not-double (Int z) n e = omega arith
not-double (Double z) n e = n z refl
not-double (Long z) n e = omega arith
not-double String n e = omega arith
not-double Raw n e = omega arith
not-double Void n e = omega arith

pub not-long : (x : Scalar) → ((z : ℤ) → x ≡ Long z → ⊥) → kind_of x ≡ long → ⊥
not-long (Bool z) n e = omega arith
not-long (Int z) n e = omega arith
not-long (Double z) n e = omega arith
not-long (Long z) n e = n z refl
not-long String n e = omega arith
not-long Raw n e = omega arith
not-long Void n e = omega arith

pub not-string : (x : Scalar) → (x ≡ String → ⊥) → kind_of x ≡ string → ⊥
not-string (Bool z) n e = omega arith
not-string (Int z) n e = omega arith
not-string (Double z) n e = omega arith
not-string (Long z) n e = omega arith
not-string String n e = n refl
not-string Raw n e = omega arith
not-string Void n e = omega arith

pub not-raw : (x : Scalar) → (x ≡ Raw → ⊥) → kind_of x ≡ raw → ⊥
not-raw (Bool z) n e = omega arith
not-raw (Int z) n e = omega arith
not-raw (Double z) n e = omega arith
not-raw (Long z) n e = omega arith
not-raw String n e = omega arith
not-raw Raw n e = n refl
not-raw Void n e = omega arith

-- ---- the value of an operand whose scalar is known

module _ (a : Operand) where
  pub value-is : {x : Scalar} → a.scalar ≡ x → value_of a ≡ value_beside x (beside a)
  unfolding value_of
  value-is e = ap (λ (x : Scalar). value_beside x (beside a)) e

-- ---- one operand

pub not_bool : (a : Operand) {p : B.Bool} → a.scalar ≡ Bool p → answer_of (Ok (Bool (not p))) ≡ not_of (value_of a)
unfolding answer_of not_of unsigned_of
not_bool a {p = true} e = rw (value-is a e) refl
not_bool a {p = false} e = rw (value-is a e) refl

not-other-by : (v : Value) → (basic_of v ≡ bool → ⊥) → wrong ≡ not_of v
unfolding not_of
not-other-by (value b t) n = rw (ne_eqb b bool n) refl

pub not-other : (a : Operand) → (kind_of a.scalar ≡ bool → ⊥) → answer_of (Err Wrong) ≡ not_of (value_of a)
unfolding answer_of value_of
not-other a n = not-other-by (value_of a) (λ e. n (sym (basic-kind a.scalar (beside a)) ∙ e))

-- What sums are as answers, in the code and by definition.
pub int-given : {s : Option ℤ} {x z : ℤ} → s ≡ Some z → x ≡ z → answer_of (Ok (Int x)) ≡ int_answer s
unfolding answer_of
int-given {x = x} e q = ap (λ (y : ℤ). gives (of_int y)) q ∙ ap int_answer (sym e)

pub int-left : {s : Option ℤ} (z : ℤ) → s ≡ None → answer_of (Err (Outside (Int z))) ≡ int_answer s
unfolding answer_of
int-left z e = ap int_answer (sym e)

pub long-given : {s : Option ℤ} {x z : ℤ} → s ≡ Some z → x ≡ z → answer_of (Ok (Long x)) ≡ long_answer s
unfolding answer_of
long-given {x = x} e q = ap (λ (y : ℤ). gives (of_long y)) q ∙ ap long_answer (sym e)

pub long-left : {s : Option ℤ} (z : ℤ) → s ≡ None → answer_of (Err (Outside (Long z))) ≡ long_answer s
unfolding answer_of
long-left z e = ap long_answer (sym e)

pub int-answers : (z : ℤ) → int_answer (int_sum z) ≡ exactly int w32 z
unfolding int_sum
int-answers z = go (in_width w32 z)
  where
    go : (t : B.Bool) → int_answer (pick t (Some z) None) ≡ pick t (gives (of_int z)) (outside int)
    go true = refl
    go false = refl

pub long-answers : (z : ℤ) → long_answer (long_sum z) ≡ exactly long w64 z
unfolding long_sum
long-answers z = go (in_width w64 z)
  where
    go : (t : B.Bool) → long_answer (pick t (Some z) None) ≡ pick t (gives (of_long z)) (outside long)
    go true = refl
    go false = refl

-- What an operator's code gives, as an answer.
pub answer : (x : Scalar) → answer_of (Ok x) ≡ gives (value_beside x [])
unfolding answer_of
answer x = refl

-- One law for int and long, over the basic type n and its width.
pub negate-integer : (a : Operand) (n : ℕ) (u : Width) → (basic_type n).arithmetic ≡ integral u → {p : ℤ} → value_of a ≡ value n (integer_bytes u p) → SFits u p
    → exactly n u (neg_ℤ p) ≡ negate_of (value_of a)
unfolding negate_of
negate-integer a n u k {p} e f = rw (e, k, exact u p f) refl

pub negate-double : (a : Operand) {p : Float} → a.scalar ≡ Double p → T (fits binary64 p) → answer_of (Ok (Double (Ieee.neg p))) ≡ negate_of (value_of a)
unfolding answer_of negate_of
negate-double a {p} e f = rw (value-is a e, double-back p f) refl

-- ---- operands that are no numbers

-- A scalar of none of the kinds that have arithmetic.
pub no-number : (x : Scalar) → (kind_of x ≡ int → ⊥) → (kind_of x ≡ long → ⊥) → (kind_of x ≡ double → ⊥) → (basic_type (kind_of x)).arithmetic ≡ no_arithmetic
no-number (Bool z) n m o = refl
no-number (Int z) n m o = absurd (n refl)
no-number (Double z) n m o = absurd (o refl)
no-number (Long z) n m o = absurd (m refl)
no-number String n m o = refl
no-number Raw n m o = refl
no-number Void n m o = refl

abbrev pub NoNumber : Operand → Type 0
NoNumber a = (basic_type (kind_of a.scalar)).arithmetic ≡ no_arithmetic

module _ (a : Operand) where
  value-no-number : NoNumber a → (basic_type (basic_of (value_of a))).arithmetic ≡ no_arithmetic
  unfolding value_of
  value-no-number n = ap (λ (k : ℕ). (basic_type k).arithmetic) (basic-kind a.scalar (beside a)) ∙ n

negate-other-by : (v : Value) → (basic_type (basic_of v)).arithmetic ≡ no_arithmetic → wrong ≡ negate_of v
unfolding negate_of
negate-other-by (value b t) n = rw n refl

pub negate-other : (a : Operand) → NoNumber a → answer_of (Err Wrong) ≡ negate_of (value_of a)
unfolding answer_of
negate-other a n = negate-other-by (value_of a) (value-no-number a n)

-- ---- two operands of two kinds

alike-differ : (f : ℕ → List ℕ → List ℕ → Answer) (x y : Value) → (basic_of x ≡ basic_of y → ⊥) → wrong ≡ alike f x y
alike-differ f (value b v) (value c w) n = rw (ne_eqb b c n) refl

module _ (a b : Operand) where
  unlike : (f : ℕ → List ℕ → List ℕ → Answer) {x : Scalar} → a.scalar ≡ x → (kind_of b.scalar ≡ kind_of x → ⊥) → wrong ≡ alike f (value_of a) (value_of b)
  unfolding value_of
  unlike f e n =
      alike-differ f (value_of a) (value_of b)
      (λ q. n (sym (basic-kind b.scalar (beside b)) ∙ sym q ∙ basic-kind a.scalar (beside a) ∙ ap kind_of e))

-- ---- add, subtract, less

module _ (o : Numeric) (a b : Operand) where
  on_integers : (n : ℕ) (u : Width) → (basic_type n).arithmetic ≡ integral u → {p q : ℤ} → (value_of a ≡ value n (integer_bytes u p)) × (value_of b ≡ value n (integer_bytes u q))
      → SFits u p → SFits u q → o.integers n u p q ≡ numeric_of o (value_of a) (value_of b)
  on_integers n u k {p} {q} v f g = rw (v.0, v.1, eq-eqb n n refl, k) exactly-so
    where
      exactly-so : o.integers n u p q ≡ o.integers n u (signed u (integer_bytes u p)) (signed u (integer_bytes u q))
      exactly-so = rw (exact u p f, exact u q g) refl

  on-doubles : {p q : Float} → (value_of a ≡ of_double p) × (value_of b ≡ of_double q) → T (fits binary64 p) → T (fits binary64 q)
      → gives (o.doubles double p q) ≡ numeric_of o (value_of a) (value_of b)
  on-doubles {p} {q} v f g = rw (v.0, v.1, double-back p f, double-back q g) refl

no-numbers-by : (o : Numeric) (x y : Value) → (basic_type (basic_of x)).arithmetic ≡ no_arithmetic → wrong ≡ numeric_of o x y
no-numbers-by o (value b v) (value c w) n = rw n (go (eqb b c))
  where
    go : (t : B.Bool) → wrong ≡ pick t wrong wrong
    go true = refl
    go false = refl

module _ (a b : Operand) where
  abbrev Both : Value → Value → Type 0
  Both x y = (value_of a ≡ x) × (value_of b ≡ y)

  pub add-integers : (n : ℕ) (u : Width) → (basic_type n).arithmetic ≡ integral u → {p q : ℤ} → Both (value n (integer_bytes u p)) (value n (integer_bytes u q))
      → SFits u p → SFits u q → exactly n u (p +ℤ q) ≡ add_of (value_of a) (value_of b)
  unfolding add_of
  add-integers n u k v f g = on_integers adding a b n u k v f g

  pub add-doubles : (p q : Float) → Both (of_double p) (of_double q) → T (fits binary64 p) → T (fits binary64 q)
      → gives (of_double (Ieee.add binary64 p q)) ≡ add_of (value_of a) (value_of b)
  unfolding add_of
  add-doubles p q v f g = on-doubles adding a b v f g

  pub subtract-integers : (n : ℕ) (u : Width) → (basic_type n).arithmetic ≡ integral u → {p q : ℤ} → Both (value n (integer_bytes u p)) (value n (integer_bytes u q))
      → SFits u p → SFits u q → exactly n u (p -ℤ q) ≡ subtract_of (value_of a) (value_of b)
  unfolding subtract_of
  subtract-integers n u k v f g = on_integers subtracting a b n u k v f g

  pub subtract-doubles : (p q : Float) → Both (of_double p) (of_double q) → T (fits binary64 p) → T (fits binary64 q)
      → gives (of_double (Ieee.sub binary64 p q)) ≡ subtract_of (value_of a) (value_of b)
  unfolding subtract_of
  subtract-doubles p q v f g = on-doubles subtracting a b v f g

  pub less-integers : (n : ℕ) (u : Width) → (basic_type n).arithmetic ≡ integral u → {p q : ℤ} {t : B.Bool} → Both (value n (integer_bytes u p)) (value n (integer_bytes u q))
      → SFits u p → SFits u q → t ≡ lt_z p q → gives (of_bool t) ≡ less_of (value_of a) (value_of b)
  unfolding less_of
  less-integers n u k v f g e = rw e (on_integers comparing a b n u k v f g)

  pub less-doubles : (p q : Float) {t : B.Bool} → Both (of_double p) (of_double q) → T (fits binary64 p) → T (fits binary64 q) → t ≡ Ieee.lt p q
      → gives (of_bool t) ≡ less_of (value_of a) (value_of b)
  unfolding less_of
  less-doubles p q v f g k = rw k (on-doubles comparing a b v f g)

module _ (a b : Operand) where
  pub add-unlike : {x : Scalar} → a.scalar ≡ x → (kind_of b.scalar ≡ kind_of x → ⊥) → answer_of (Err Wrong) ≡ add_of (value_of a) (value_of b)
  unfolding answer_of add_of
  add-unlike e n = unlike a b (λ b. numeric_by adding (basic_type b).arithmetic b) e n

  pub add-other : NoNumber a → answer_of (Err Wrong) ≡ add_of (value_of a) (value_of b)
  unfolding answer_of add_of
  add-other n = no-numbers-by adding (value_of a) (value_of b) (value-no-number a n)

  pub subtract-unlike : {x : Scalar} → a.scalar ≡ x → (kind_of b.scalar ≡ kind_of x → ⊥) → answer_of (Err Wrong) ≡ subtract_of (value_of a) (value_of b)
  unfolding answer_of subtract_of
  subtract-unlike e n = unlike a b (λ b. numeric_by subtracting (basic_type b).arithmetic b) e n

  pub subtract-other : NoNumber a → answer_of (Err Wrong) ≡ subtract_of (value_of a) (value_of b)
  unfolding answer_of subtract_of
  subtract-other n = no-numbers-by subtracting (value_of a) (value_of b) (value-no-number a n)

  pub less-unlike : {x : Scalar} → a.scalar ≡ x → (kind_of b.scalar ≡ kind_of x → ⊥) → answer_of (Err Wrong) ≡ less_of (value_of a) (value_of b)
  unfolding answer_of less_of
  less-unlike e n = unlike a b (λ b. numeric_by comparing (basic_type b).arithmetic b) e n

  pub less-other : NoNumber a → answer_of (Err Wrong) ≡ less_of (value_of a) (value_of b)
  unfolding answer_of less_of
  less-other n = no-numbers-by comparing (value_of a) (value_of b) (value-no-number a n)

-- ---- and

and-bits : (p q : B.Bool) → of_bool (p && q) ≡ of_bool (bool_of (bit p ∷ []) && bool_of (bit q ∷ []))
unfolding unsigned_of
and-bits true true = refl
and-bits true false = refl
and-bits false true = refl
and-bits false false = refl

and-other-by : (x y : Value) → (basic_of x ≡ bool → ⊥) → wrong ≡ alike and_by x y
and-other-by (value b v) (value c w) n = rw (ne_eqb b bool n) (go (eqb b c))
  where
    go : (t : B.Bool) → wrong ≡ pick t wrong wrong
    go true = refl
    go false = refl

-- ---- equal

equal-other-by : (x y : Value) → basic_of x ≡ void → wrong ≡ alike equal_by x y
equal-other-by (value b v) (value c w) e = rw e (go (eqb void c))
  where
    go : (t : B.Bool) → wrong ≡ pick t wrong wrong
    go true = refl
    go false = refl

module _ (a b : Operand) where
  pub equal-integers : (n : ℕ) (u : Width) → eqb n void ≡ false → eqb n double ≡ false → {p q : ℤ} → (value_of a ≡ value n (integer_bytes u p)) × (value_of b ≡ value n (integer_bytes u q))
      → SFits u p → SFits u q → gives (of_bool (eqb (of_z u p) (of_z u q))) ≡ equal_of (value_of a) (value_of b)
  unfolding equal_of
  equal-integers n u o d {p} {q} v f g = rw (v.0, v.1, eq-eqb n n refl, o, d, same-integer u p q f g) refl

module _ (a b : Operand) where
  pub and-bools : {p q t : B.Bool} → a.scalar ≡ Bool p → b.scalar ≡ Bool q → t ≡ (p && q) → answer_of (Ok (Bool t)) ≡ and_of (value_of a) (value_of b)
  unfolding answer_of and_of
  and-bools {p} {q} e f k = rw (k, value-is a e, value-is b f) (ap gives (and-bits p q))

  pub and-unlike : {x : Scalar} → a.scalar ≡ x → (kind_of b.scalar ≡ kind_of x → ⊥) → answer_of (Err Wrong) ≡ and_of (value_of a) (value_of b)
  unfolding answer_of and_of
  and-unlike e n = unlike a b and_by e n

  pub and-other : (kind_of a.scalar ≡ bool → ⊥) → answer_of (Err Wrong) ≡ and_of (value_of a) (value_of b)
  unfolding answer_of and_of value_of
  and-other n = and-other-by (value_of a) (value_of b) (λ e. n (sym (basic-kind a.scalar (beside a)) ∙ e))

  pub equal-bools : {p q : B.Bool} → a.scalar ≡ Bool p → b.scalar ≡ Bool q → answer_of (Ok (Bool (beq p q))) ≡ equal_of (value_of a) (value_of b)
  unfolding answer_of equal_of
  equal-bools {p} {q} e f = rw (value-is a e, value-is b f, same_bit p q) refl

  pub equal-doubles : {p q : Float} {t : B.Bool} → a.scalar ≡ Double p → b.scalar ≡ Double q → T (fits binary64 p) → T (fits binary64 q) → t ≡ Ieee.eq p q
      → answer_of (Ok (Bool t)) ≡ equal_of (value_of a) (value_of b)
  unfolding answer_of equal_of
  equal-doubles {p} {q} e f g h k = rw (k, value-is a e, value-is b f, double-back p g, double-back q h) refl

  pub equal-strings : {t : B.Bool} → a.scalar ≡ String → b.scalar ≡ String → t ≡ equal_bytes (beside a) (beside b) → answer_of (Ok (Bool t)) ≡ equal_of (value_of a) (value_of b)
  unfolding answer_of equal_of
  equal-strings e f k = rw (k, value-is a e, value-is b f) refl

  pub equal-raws : {t : B.Bool} → a.scalar ≡ Raw → b.scalar ≡ Raw → t ≡ equal_bytes (beside a) (beside b) → answer_of (Ok (Bool t)) ≡ equal_of (value_of a) (value_of b)
  unfolding answer_of equal_of
  equal-raws e f k = rw (k, value-is a e, value-is b f) refl

  pub equal-unlike : {x : Scalar} → a.scalar ≡ x → (kind_of b.scalar ≡ kind_of x → ⊥) → answer_of (Err Wrong) ≡ equal_of (value_of a) (value_of b)
  unfolding answer_of equal_of
  equal-unlike e n = unlike a b equal_by e n

  pub equal-other : kind_of a.scalar ≡ void → answer_of (Err Wrong) ≡ equal_of (value_of a) (value_of b)
  unfolding answer_of equal_of value_of
  equal-other e = equal-other-by (value_of a) (value_of b) (basic-kind a.scalar (beside a) ∙ e)
