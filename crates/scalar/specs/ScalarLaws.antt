-- A value that is read and written back is the same bytes, a value that is written and read again is the same value, and no value of
-- the code is longer than 16 bytes.
use Rattle.std.specs.Prelude.{ℕ, ◌+◌, ◌≤◌, ◌≡◌, refl, true, List, [], ◌++◌, length, take, drop}
use Rattle.std.proofs.Common.{arith, sym, ap, subst, ◌∙◌, length-take, of_z, take_at, drop_at, length-take-le}
use Rattle.std.specs.Float.{binary64}
use Rattle.std.specs.Float.Ieee.{to_bits}
use Rattle.std.specs.Int.{w32, w64}
use Rattle.wire.specs.Wire.{part, with_part}
use Rattle.wire.specs.WireLaws.{through-start, through-whole}
use Rattle.scalar.specs.declared.Operand.{Operand}
use Rattle.scalar.specs.declared.Scalar.{Scalar}
use Rattle.scalar.specs.declared.Scalar.TheVariants.{Bool, Int, Double, Long, String, Raw, Void}
use Rattle.scalar.specs.NumberLaws.{length-little_endian}
use Rattle.scalar.specs.Value.{Value, value, basic_of, bytes_of, is_value, SoundText}
use Rattle.scalar.specs.ValueLaws.{empty-string, value-text}
use Rattle.scalar.specs.Scalar.{value_beside, value_of, beside, kind_of}

-- The kind of a scalar is its value's basic type.
pub basic-kind : (x : Scalar) (t : List ℕ) → basic_of (value_beside x t) ≡ kind_of x
basic-kind (Bool b) t = refl
basic-kind (Int z) t = refl
basic-kind (Double x) t = refl
basic-kind (Long z) t = refl
basic-kind String t = refl
basic-kind Raw t = refl
basic-kind Void t = refl

-- A scalar with no bytes beside it is sound as text, and so is what is read of the bytes of a value.
plain-sound : (x : Scalar) → SoundText (value_beside x [])
plain-sound (Bool b) = record { rule = λ e. absurd (omega arith) }
plain-sound (Int z) = record { rule = λ e. absurd (omega arith) }
plain-sound (Double x) = record { rule = λ e. absurd (omega arith) }
plain-sound (Long z) = record { rule = λ e. absurd (omega arith) }
plain-sound String = record { rule = λ e. empty-string }
plain-sound Raw = record { rule = λ e. absurd (omega arith) }
plain-sound Void = record { rule = λ e. absurd (omega arith) }

pub plain-text : (r : Operand) (x : Scalar) → value_of r ≡ value_beside x [] → SoundText (value_of r)
plain-text r x h = subst SoundText (sym h) (plain-sound x)

pub read-text : (r : Operand) {b : ℕ} {v : List ℕ} → value_of r ≡ value b v → is_value b v ≡ true → SoundText (value_of r)
read-text r {b} {v} h k = subst SoundText (sym h) (value-text b v k)

-- What `read` gives of the bytes of a value, written to their own place, leaves the slice as it is.
pub written_back : (s : List ℕ) (at b n : ℕ) (x : Operand) → at + n ≤ length s → value_of x ≡ value b (part s at n) → with_part s at (bytes_of (value_of x)) ≡ s
written_back s at b n x h e = ap (λ (v : Value). with_part s at (bytes_of v)) e ∙ through-whole (through-start s at n) h

-- What `write` left, read again by its basic type and length, is the value.
pub read_again : (s : List ℕ) (at : ℕ) (v : Value) → at + length (bytes_of v) ≤ length s
    → value (basic_of v) (part (with_part s at (bytes_of v)) at (length (bytes_of v))) ≡ v
read_again s at (value b v) h =
    let l : length (take at s) ≡ at = length-take-le at s (omega arith) in
    ap (value b) (ap (take (length v)) (drop_at (take at s) (v ++ drop (at + length v) s) at l) ∙ take_at v (drop (at + length v) s) (length v) refl)

-- A value of the code has at most 16 bytes.
pub short-value : (x : Operand) → length x.bytes ≡ 16 → length (bytes_of (value_of x)) ≤ 16
unfolding value_of
short-value x e = by x.scalar
  where
    by : (k : Scalar) → length (bytes_of (value_beside k (beside x))) ≤ 16
    by (Bool b) = omega arith
    by (Int z) = omega (arith, length-little_endian 4 (of_z w32 z))
    by (Double d) = omega (arith, length-little_endian 8 (to_bits binary64 d))
    by (Long z) = omega (arith, length-little_endian 8 (of_z w64 z))
    by String = omega (arith, length-take x.len x.bytes)
    by Raw = omega (arith, length-take x.len x.bytes)
    by Void = omega arith
