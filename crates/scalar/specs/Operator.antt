-- The operators of expressions on values. 01, Typing: "Not, and: bool; both operands are worked out. Negate, add, subtract,
-- less: int, long or double, both alike. Equal: alike, not void; doubles by IEEE equality .. a double sum is rounded once." 02: "Int and
-- long add, subtract and negate no longer wrap". Operands of another kind are wrong; a move then refuses with 18.
use Rattle.std.specs.Prelude.{List, [], ◌∷◌, Bool, true, false, not, ◌&&◌, ℕ, ◌/◌, eqb, ℤ, neg_ℤ, ◌+ℤ◌, ◌-ℤ◌, Float}
use Rattle.std.specs.Int.Signed.{lt_z}
use Rattle.std.specs.Float.{binary64}
use Rattle.std.specs.Float.Ieee.{of_bits, to_bits}
use Rattle.std.specs.Float.Ieee as Ieee
use Rattle.std.specs.Int.{Width, w32, w64}
use mir.Val.{bits, to_z, of_z}
use Rattle.integer.specs.Range.{in_width}
use Rattle.scalar.specs.Basic.{bool, int, double, long, void}
use Rattle.scalar.specs.Value.{Value, value, Arithmetic, integral, floating, no_arithmetic, basic_type}
use Rattle.wire.specs.Wire.{unsigned_of, little_endian}
use Rattle.basics.specs.Choice.{pick}

-- What an operator gives: that its operands are of the wrong kind; that its "exact result is outside its width", of which only the basic
-- type is known; or a value.
pub data Answer : Type 0 where
  wrong : Answer
  outside : ℕ → Answer
  gives : Value → Answer

-- ---- what the bytes of a value stand for, and the value of what they stand for

-- "bool one byte 0 or 1"
abbrev pub bool_of : List ℕ → Bool
bool_of v = eqb (unsigned_of v) 1

abbrev pub bit : Bool → ℕ
bit false = 0
bit true = 1

abbrev pub of_bool : Bool → Value
of_bool b = value bool (bit b ∷ [])

-- "int 4 bytes and long 8 (two's complement)": the integer that bytes of a width stand for, and the bytes of an integer of the width.
abbrev pub signed : Width → List ℕ → ℤ
signed w v = to_z w (unsigned_of v)

abbrev pub integer_bytes : Width → ℤ → List ℕ
integer_bytes w z = little_endian (bits w / 8) (of_z w z)

abbrev pub of_int : ℤ → Value
of_int z = value int (integer_bytes w32 z)

abbrev pub of_long : ℤ → Value
of_long z = value long (integer_bytes w64 z)

-- "double 8 (IEEE 754; the only NaN is 7FF8000000000000 hexadecimal)": `to_bits` writes that one.
abbrev pub double_of : List ℕ → Float
double_of v = of_bits binary64 (unsigned_of v)

abbrev pub rounded : Float → List ℕ
rounded x = little_endian 8 (to_bits binary64 x)

abbrev pub of_double : Float → Value
of_double x = value double (rounded x)

-- "int, long or double": the basic types with arithmetic.
abbrev pub is_numeric : Arithmetic → Bool
is_numeric (integral u) = true
is_numeric floating = true
is_numeric no_arithmetic = false

abbrev pub is_number : ℕ → Bool
is_number b = is_numeric (basic_type b).arithmetic

-- ---- operators of one operand

-- "Not .. : bool"
abbrev pub not_by : ℕ → List ℕ → Answer
not_by b v = pick (eqb b bool) (gives (of_bool (not (bool_of v)))) wrong

unfoldable pub not_of : Value → Answer
not_of (value b v) = not_by b v

-- 02: "where the exact result is outside its width, the move is refused": the exact result z, of the basic type b of that width.
abbrev pub exactly : ℕ → Width → ℤ → Answer
exactly b u z = pick (in_width u z) (gives (value b (integer_bytes u z))) (outside b)

-- "Negate .. : int, long or double": said once for every width. A double's sign is turned, also of a zero; a NaN stays the one NaN.
abbrev pub negate_by : Arithmetic → ℕ → List ℕ → Answer
negate_by (integral u) b v = exactly b u (neg_ℤ (signed u v))
negate_by floating b v = gives (value b (rounded (Ieee.neg (double_of v))))
negate_by no_arithmetic b v = wrong

unfoldable pub negate_of : Value → Answer
negate_of (value b v) = negate_by (basic_type b).arithmetic b v

-- ---- operators of two operands, "both alike": of one basic type

abbrev pub alike : (ℕ → List ℕ → List ℕ → Answer) → Value → Value → Answer
alike f (value b v) (value c w) = pick (eqb b c) (f b v w) wrong

-- "and: bool; both operands are worked out"
abbrev pub and_by : ℕ → List ℕ → List ℕ → Answer
and_by b v w = pick (eqb b bool) (gives (of_bool (bool_of v && bool_of w))) wrong

unfoldable pub and_of : Value → Value → Answer
and_of = alike and_by

-- "add, subtract, less: int, long or double": an operator by what it does to two integers of a width and to two doubles, of the basic
-- type b.
pub record Numeric : Type 0 where
  pub integers : ℕ → Width → ℤ → ℤ → Answer
  pub doubles : ℕ → Float → Float → Value

abbrev pub numeric_by : Numeric → Arithmetic → ℕ → List ℕ → List ℕ → Answer
numeric_by o (integral u) b v w = o.integers b u (signed u v) (signed u w)
numeric_by o floating b v w = gives (o.doubles b (double_of v) (double_of w))
numeric_by o no_arithmetic b v w = wrong

abbrev pub numeric_of : Numeric → Value → Value → Answer
numeric_of o = alike (λ b. numeric_by o (basic_type b).arithmetic b)

-- Exact sums; "a double sum is rounded once".
abbrev pub adding : Numeric
adding = record {
  integers = λ b u x y. exactly b u (x +ℤ y);
  doubles = λ b x y. value b (rounded (Ieee.add binary64 x y));
}

unfoldable pub add_of : Value → Value → Answer
add_of = numeric_of adding

abbrev pub subtracting : Numeric
subtracting = record {
  integers = λ b u x y. exactly b u (x -ℤ y);
  doubles = λ b x y. value b (rounded (Ieee.sub binary64 x y));
}

unfoldable pub subtract_of : Value → Value → Answer
subtract_of = numeric_of subtracting

-- No double is less than a NaN, and no NaN than a double.
abbrev pub comparing : Numeric
comparing = record { integers = λ b u x y. gives (of_bool (lt_z x y)); doubles = λ b x y. of_bool (Ieee.lt x y) }

unfoldable pub less_of : Value → Value → Answer
less_of = numeric_of comparing

-- Are the bytes the same?
abbrev pub equal_bytes : List ℕ → List ℕ → Bool
equal_bytes [] [] = true
equal_bytes [] (b ∷ w) = false
equal_bytes (a ∷ v) [] = false
equal_bytes (a ∷ v) (b ∷ w) = eqb a b && equal_bytes v w

-- "Equal: alike, not void; doubles by IEEE equality" (a NaN equals nothing, 0.0 equals -0.0), the others by their bytes.
abbrev pub equal_by : ℕ → List ℕ → List ℕ → Answer
equal_by b v w =
    pick (eqb b void) wrong
    (pick (eqb b double) (gives (of_bool (Ieee.eq (double_of v) (double_of w))))
    (gives (of_bool (equal_bytes v w))))

unfoldable pub equal_of : Value → Value → Answer
equal_of = alike equal_by
