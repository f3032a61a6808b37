-- Laws of the operators: on operands of the right basic types each gives a value of the right basic type or is outside it, on others it is
-- wrong; sums, differences and opposites of integers are exact or outside; and 01's proved cases h and i.
use Rattle.std.specs.Prelude.{◌≡◌, List, Bool, true, false, not, ◌&&◌, ◌||◌, ℕ, zero, suc, ◌/◌, ◌<◌, T, eqb, ℤ, pos, negsuc, neg_ℤ, ◌+ℤ◌, ◌-ℤ◌, Float}
use Rattle.std.proofs.Math.Path.{refl}
use Rattle.std.proofs.Common.{sym, ap, ◌∙◌, arith, ne_eqb, eq-eqb}
use Rattle.std.proofs.Math.ListN.{get_or-eq_default}
use Rattle.std.specs.Int.Signed.{lt_z}
use Rattle.std.specs.Float.{binary64}
use Rattle.std.specs.Float.Ieee.{fits, neg, add, sub, lt, eq, of_bits, to_bits, of_fields, sum, round, size, units, odd, span, climb}
use Rattle.std.specs.Float.Ieee.Fits.{add-fits, sub-fits, neg-fits}
use Rattle.std.specs.Float.Ieee.Bits.{of_bits-fits}
use Rattle.std.specs.Int.Count.{count_trailing_zeros}
use Rattle.std.specs.Int.{Width}
use mir.Val.{bits, of_z}
use Rattle.wire.specs.Wire.{byte_at}
use Rattle.integer.specs.Range.{in_width}
use Rattle.integer.specs.RangeLaws.{width_fits}
use Rattle.scalar.specs.Basic.{bool, int, double, long, void, last_basic}
use Rattle.scalar.specs.Value.{Value, value, basic_of, bytes_of, SoundValue, Arithmetic, integral}
use Rattle.scalar.specs.Value.{floating, no_arithmetic, BasicType, basic_types, no_type, basic_type}
use Rattle.wire.specs.Wire.{unsigned_of}
use Rattle.basics.specs.Choice.{pick}
use Rattle.basics.specs.TestLaws.{and_left, and_right}
use Rattle.scalar.specs.Operator.{Answer, wrong, outside, gives, bool_of, of_bool, signed, integer_bytes, rounded, of_int, double_of}
use Rattle.scalar.specs.Operator.{equal_bytes, is_numeric, is_number, exactly}
use Rattle.wire.specs.Wire.{little_endian}
use Rattle.scalar.specs.Operator.{alike, negate_by, Numeric, numeric_by, numeric_of, adding, subtracting, comparing, and_by, equal_by}
use Rattle.scalar.specs.Operator.{not_of, negate_of, and_of, add_of, subtract_of, less_of, equal_of}
use Rattle.scalar.specs.NumberLaws.{exact, sound-bool, sound-integer, sound-floating, small-little_endian, small-bit}

number_past : (b : ℕ) → last_basic < b → is_number b ≡ (eqb b int || (eqb b long || eqb b double))
number_past b h =
    ap (λ (t : BasicType). is_numeric t.arithmetic) (get_or-eq_default basic_types no_type {n = b} (omega arith))
    ∙ rw (ne_eqb b int (λ e. omega arith), ne_eqb b long (λ e. omega arith), ne_eqb b double (λ e. omega arith)) refl

-- "int, long or double"
pub number_is : (b : ℕ) → is_number b ≡ (eqb b int || (eqb b long || eqb b double))
number_is zero = refl
number_is (suc zero) = refl
number_is (suc (suc zero)) = refl
number_is (suc (suc (suc zero))) = refl
number_is (suc (suc (suc (suc zero)))) = refl
number_is (suc (suc (suc (suc (suc zero))))) = refl
number_is (suc (suc (suc (suc (suc (suc zero)))))) = refl
number_is (suc (suc (suc (suc (suc (suc (suc b))))))) = number_past (suc (suc (suc (suc (suc (suc (suc b))))))) (omega arith)

-- The value is of the basic type b, by the value rule and of bytes.
pub record OfBasic (b : ℕ) (v : Value) : Type 0 where
  pub sound : SoundValue b v
  pub octets : (k : ℕ) → byte_at (bytes_of v) k < 256

-- The answer is a value of the basic type b, or is outside it.
abbrev pub Gives : ℕ → Answer → Type 0
Gives b wrong = ⊥
Gives b (outside c) = c ≡ b
Gives b (gives v) = OfBasic b v

gives-bool : (t : Bool) → Gives bool (gives (of_bool t))
gives-bool t = record { sound = sound-bool t; octets = small-bit t }

gives-integer : (b : ℕ) (u : Width) (z : ℤ) → (basic_type b).arithmetic ≡ integral u → Gives b (exactly b u z)
gives-integer b u z e = go (in_width u z)
  where
    go : (t : Bool) → Gives b (pick t (gives (value b (integer_bytes u z))) (outside b))
    go true = record { sound = sound-integer b u z e; octets = small-little_endian (bits u / 8) (of_z u z) }
    go false = refl

gives-double : (b : ℕ) (x : Float) → (basic_type b).arithmetic ≡ floating → T (fits binary64 x) → Gives b (gives (value b (rounded x)))
gives-double b x e f = record { sound = sound-floating b x e f; octets = small-little_endian 8 (to_bits binary64 x) }

-- What holds of what is picked.
pick_yes : (P : Answer → Type 0) (t : Bool) (x y : Answer) → t ≡ true → P x → P (pick t x y)
pick_yes P true x y e p = p
pick_yes P false x y e p = let z : ◌≡◌ {A = ℕ} 0 1 = cc in absurd (omega arith)

pick_no : (t : Bool) (x y : Answer) → t ≡ false → pick t x y ≡ y
pick_no true x y e = let z : ◌≡◌ {A = ℕ} 0 1 = cc in absurd (omega arith)
pick_no false x y e = refl

pick-wrong : (t : Bool) (x : Answer) → (t ≡ true → x ≡ wrong) → pick t x wrong ≡ wrong
pick-wrong true x f = f refl
pick-wrong false x f = refl

-- Of two tests that together fail, the first fails where the second holds.
left-fails : (s t : Bool) → (s && t) ≡ false → t ≡ true → s ≡ false
left-fails true t e f = sym f ∙ e
left-fails false t e f = refl

-- ---- what the operators of two operands share

alike-gives : (f : ℕ → List ℕ → List ℕ → Answer) (k : ℕ → ℕ) (P : ℕ → Bool)
    → ((b : ℕ) (v w : List ℕ) → P b ≡ true → Gives (k b) (f b v w))
    → (x y : Value) → (P (basic_of x) && eqb (basic_of x) (basic_of y)) ≡ true → Gives (k (basic_of x)) (alike f x y)
alike-gives f k P h (value b v) (value c w) e =
    pick_yes (Gives (k b)) (eqb b c) (f b v w) wrong (and_right (P b) (eqb b c) e) (h b v w (and_left (P b) (eqb b c) e))

alike-wrong : (f : ℕ → List ℕ → List ℕ → Answer) (P : ℕ → Bool)
    → ((b : ℕ) (v w : List ℕ) → P b ≡ false → f b v w ≡ wrong)
    → (x y : Value) → (P (basic_of x) && eqb (basic_of x) (basic_of y)) ≡ false → alike f x y ≡ wrong
alike-wrong f P h (value b v) (value c w) e =
    pick-wrong (eqb b c) (f b v w) (λ q. h b v w (left-fails (P b) (eqb b c) e q))

-- ---- not, and: bool

pub not_gives : (x : Value) → eqb (basic_of x) bool ≡ true → Gives bool (not_of x)
unfolding not_of
not_gives (value b v) e = pick_yes (Gives bool) (eqb b bool) _ wrong e (gives-bool (not (bool_of v)))

pub not-wrong : (x : Value) → eqb (basic_of x) bool ≡ false → not_of x ≡ wrong
unfolding not_of
not-wrong (value b v) e = pick_no (eqb b bool) _ wrong e

pub and-gives : (x y : Value) → (eqb (basic_of x) bool && eqb (basic_of x) (basic_of y)) ≡ true → Gives bool (and_of x y)
unfolding and_of
and-gives = alike-gives and_by (λ b. bool) (λ b. eqb b bool)
    (λ b v w e. pick_yes (Gives bool) (eqb b bool) _ wrong e (gives-bool (bool_of v && bool_of w)))

pub and-wrong : (x y : Value) → (eqb (basic_of x) bool && eqb (basic_of x) (basic_of y)) ≡ false → and_of x y ≡ wrong
unfolding and_of
and-wrong = alike-wrong and_by (λ b. eqb b bool) (λ b v w e. pick_no (eqb b bool) _ wrong e)

-- ---- negate, add, subtract, less: int, long or double, both alike

negate-by : (a : Arithmetic) (b : ℕ) (v : List ℕ) → (basic_type b).arithmetic ≡ a → is_numeric a ≡ true → Gives b (negate_by a b v)
negate-by (integral u) b v e h = gives-integer b u (neg_ℤ (signed u v)) e
negate-by floating b v e h = gives-double b (neg (double_of v)) e (neg-fits binary64 (double_of v) (of_bits-fits binary64 (unsigned_of v)))
negate-by no_arithmetic b v e h = let z : ◌≡◌ {A = ℕ} 0 1 = cc in absurd (omega arith)

pub negate-gives : (x : Value) → is_number (basic_of x) ≡ true → Gives (basic_of x) (negate_of x)
unfolding negate_of
negate-gives (value b v) e = negate-by (basic_type b).arithmetic b v refl e

negate-wrong-by : (a : Arithmetic) (b : ℕ) (v : List ℕ) → is_numeric a ≡ false → negate_by a b v ≡ wrong
negate-wrong-by (integral u) b v h = let z : ◌≡◌ {A = ℕ} 0 1 = cc in absurd (omega arith)
negate-wrong-by floating b v h = let z : ◌≡◌ {A = ℕ} 0 1 = cc in absurd (omega arith)
negate-wrong-by no_arithmetic b v h = refl

pub negate-wrong : (x : Value) → is_number (basic_of x) ≡ false → negate_of x ≡ wrong
unfolding negate_of
negate-wrong (value b v) e = negate-wrong-by (basic_type b).arithmetic b v e

-- An operator that gives a value of the basic type k b, on integers of a width and on doubles.
pub record GivesNumbers (o : Numeric) (k : ℕ → ℕ) : Type 0 where
  pub integers : (b : ℕ) (u : Width) (x y : ℤ) → (basic_type b).arithmetic ≡ integral u → Gives (k b) (o.integers b u x y)
  pub doubles : (b : ℕ) (x y : Float) → (basic_type b).arithmetic ≡ floating → Gives (k b) (gives (o.doubles b x y))

module _ (o : Numeric) where
  numeric-by : (k : ℕ → ℕ) (h : GivesNumbers o k) (a : Arithmetic) (b : ℕ) (v w : List ℕ) → (basic_type b).arithmetic ≡ a → is_numeric a ≡ true
      → Gives (k b) (numeric_by o a b v w)
  numeric-by k h (integral u) b v w e t = h.integers b u (signed u v) (signed u w) e
  numeric-by k h floating b v w e t = h.doubles b (double_of v) (double_of w) e
  numeric-by k h no_arithmetic b v w e t = let z : ◌≡◌ {A = ℕ} 0 1 = cc in absurd (omega arith)

  numeric-wrong-by : (a : Arithmetic) (b : ℕ) (v w : List ℕ) → is_numeric a ≡ false → numeric_by o a b v w ≡ wrong
  numeric-wrong-by (integral u) b v w t = let z : ◌≡◌ {A = ℕ} 0 1 = cc in absurd (omega arith)
  numeric-wrong-by floating b v w t = let z : ◌≡◌ {A = ℕ} 0 1 = cc in absurd (omega arith)
  numeric-wrong-by no_arithmetic b v w t = refl

  numeric-gives : (k : ℕ → ℕ) (h : GivesNumbers o k) (x y : Value) → (is_number (basic_of x) && eqb (basic_of x) (basic_of y)) ≡ true
      → Gives (k (basic_of x)) (numeric_of o x y)
  numeric-gives k h = alike-gives (λ b. numeric_by o (basic_type b).arithmetic b) k is_number (λ b v w e. numeric-by k h (basic_type b).arithmetic b v w refl e)

  numeric-wrong : (x y : Value) → (is_number (basic_of x) && eqb (basic_of x) (basic_of y)) ≡ false → numeric_of o x y ≡ wrong
  numeric-wrong = alike-wrong (λ b. numeric_by o (basic_type b).arithmetic b) is_number (λ b v w e. numeric-wrong-by (basic_type b).arithmetic b v w e)

pub add-gives : (x y : Value) → (is_number (basic_of x) && eqb (basic_of x) (basic_of y)) ≡ true → Gives (basic_of x) (add_of x y)
unfolding add_of
add-gives = numeric-gives adding (λ b. b) (record {
  integers = λ b u x y e. gives-integer b u (x +ℤ y) e;
  doubles = λ b x y e. gives-double b (add binary64 x y) e (add-fits binary64 x y);
})

pub add-wrong : (x y : Value) → (is_number (basic_of x) && eqb (basic_of x) (basic_of y)) ≡ false → add_of x y ≡ wrong
unfolding add_of
add-wrong = numeric-wrong adding

pub subtract-gives : (x y : Value) → (is_number (basic_of x) && eqb (basic_of x) (basic_of y)) ≡ true → Gives (basic_of x) (subtract_of x y)
unfolding subtract_of
subtract-gives = numeric-gives subtracting (λ b. b) (record {
  integers = λ b u x y e. gives-integer b u (x -ℤ y) e;
  doubles = λ b x y e. gives-double b (sub binary64 x y) e (sub-fits binary64 x y);
})

pub subtract-wrong : (x y : Value) → (is_number (basic_of x) && eqb (basic_of x) (basic_of y)) ≡ false → subtract_of x y ≡ wrong
unfolding subtract_of
subtract-wrong = numeric-wrong subtracting

pub less-gives : (x y : Value) → (is_number (basic_of x) && eqb (basic_of x) (basic_of y)) ≡ true → Gives bool (less_of x y)
unfolding less_of
less-gives = numeric-gives comparing (λ b. bool) (record {
  integers = λ b u x y e. gives-bool (lt_z x y);
  doubles = λ b x y e. gives-bool (lt x y);
})

pub less-wrong : (x y : Value) → (is_number (basic_of x) && eqb (basic_of x) (basic_of y)) ≡ false → less_of x y ≡ wrong
unfolding less_of
less-wrong = numeric-wrong comparing

-- ---- integers: exact, or outside their width

-- The answer for the exact result z of the basic type b: the value whose integer is z, or outside b, as `in_width` says.
pub record Exactly (b : ℕ) (u : Width) (z : ℤ) (a : Answer) : Type 0 where
  pub inside : in_width u z ≡ true → (v : List ℕ) × (a ≡ gives (value b v)) × (signed u v ≡ z)
  pub past : in_width u z ≡ false → a ≡ outside b

exact-by : (b : ℕ) (u : Width) (z : ℤ) → Exactly b u z (exactly b u z)
exact-by b u z = record {
  inside = λ e. (integer_bytes u z, rw e refl, exact u z (width_fits u z e));
  past = λ e. rw e refl;
}

-- One law over the width for int and long.
module _ (b : ℕ) (u : Width) (e : (basic_type b).arithmetic ≡ integral u) (v w : List ℕ) where
  pub add-exact : Exactly b u (signed u v +ℤ signed u w) (add_of (value b v) (value b w))
  unfolding add_of
  add-exact = rw (eq-eqb b b refl, e) (exact-by b u (signed u v +ℤ signed u w))

  pub subtract-exact : Exactly b u (signed u v -ℤ signed u w) (subtract_of (value b v) (value b w))
  unfolding subtract_of
  subtract-exact = rw (eq-eqb b b refl, e) (exact-by b u (signed u v -ℤ signed u w))

  pub negate-exact : Exactly b u (neg_ℤ (signed u v)) (negate_of (value b v))
  unfolding negate_of
  negate-exact = rw e (exact-by b u (neg_ℤ (signed u v)))

-- ---- equal: alike, not void

equal-by : (p q : Bool) (s t : Bool) → p ≡ false → Gives bool (pick p wrong (pick q (gives (of_bool s)) (gives (of_bool t))))
equal-by true q s t e = let z : ◌≡◌ {A = ℕ} 0 1 = cc in absurd (omega arith)
equal-by false true s t e = gives-bool s
equal-by false false s t e = gives-bool t

not_is : (t s : Bool) → not t ≡ s → t ≡ not s
not_is true s e = ap not e
not_is false s e = ap not e

pub equal-gives : (x y : Value) → (not (eqb (basic_of x) void) && eqb (basic_of x) (basic_of y)) ≡ true → Gives bool (equal_of x y)
unfolding equal_of
equal-gives = alike-gives equal_by (λ b. bool) (λ b. not (eqb b void))
    (λ b v w e. equal-by (eqb b void) (eqb b double) (eq (double_of v) (double_of w)) (equal_bytes v w) (not_is (eqb b void) true e))

pub equal-wrong : (x y : Value) → (not (eqb (basic_of x) void) && eqb (basic_of x) (basic_of y)) ≡ false → equal_of x y ≡ wrong
unfolding equal_of
equal-wrong = alike-wrong equal_by (λ b. not (eqb b void)) (λ b v w e. pick-void (eqb b void) _ (not_is (eqb b void) false e))
  where
    pick-void : (t : Bool) (y : Answer) → t ≡ true → pick t wrong y ≡ wrong
    pick-void true y e = refl
    pick-void false y e = let z : ◌≡◌ {A = ℕ} 0 1 = cc in absurd (omega arith)

-- ---- proved cases of 01, by computation

-- h, by 02: "01's case h becomes two refusals"
pub case-h-sum : add_of (of_int (pos 2147483647)) (of_int (pos 1)) ≡ outside int
unfolding add_of little_endian in_width unsigned_of
case-h-sum = refl

pub case-h-negated : negate_of (of_int (negsuc 2147483647)) ≡ outside int
unfolding negate_of little_endian in_width unsigned_of
case-h-negated = refl

-- i: "0.1 + 0.2 has bits 3FD3333333333334"
pub case-i : add_of (value double (little_endian 8 0x3FB999999999999A)) (value double (little_endian 8 0x3FC999999999999A))
    ≡ gives (value double (little_endian 8 0x3FD3333333333334))
unfolding add_of little_endian unsigned_of add of_bits to_bits of_fields sum round size units odd span climb count_trailing_zeros
case-i = refl
