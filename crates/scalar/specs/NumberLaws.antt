-- Laws of numbers as the bytes of a value: what is written is read back, and what an operator writes is a value.
use Rattle.std.specs.Prelude.{◌≡◌, refl, List, [], ◌∷◌, ◌++◌, Bool, true, false, not, ◌||◌, ℕ, zero, suc, ◌+◌, ◌*◌, ◌/◌, ◌%◌, ◌^◌, ◌≤◌, ◌<◌, length, T, eqb, leb, ℤ, Float}
use Rattle.std.proofs.Common.{ap, sym, ◌∙◌, pow-suc, arith, le-leb, le-ltb, ltb-false, leb-true, leb-false, eqb-true, eq-eqb}
use Rattle.std.specs.Float.{nan, inf, fin, binary64}
use Rattle.std.specs.Float.Ieee.{is_nan, nan_bits, fits, of_bits, to_bits, of_fields}
use Rattle.std.specs.Float.Ieee.Bits.{of_bits-to_bits, to_bits-of_bits, to_bits-lt, nan_bits_is, nan_bits_above}
use Rattle.std.specs.Int.{Width, w8, w16, w32, w64, w128}
use mir.Val.{bits, to_z, of_z, SFits}
use mir.ValLaws.{to_z-of_z, of_z-to_z, of_z_fits}
use Rattle.wire.specs.Wire.{byte_at, part, u32_bytes}
use Rattle.wire.specs.WireLaws.{agree-byte, part-agrees, byte_past, length_part}
use Rattle.scalar.specs.Basic.{bool}
use Rattle.scalar.specs.Value.{value, is_value, is_double, the_nan, SoundValue, integral, floating, no_arithmetic, basic_type}
use Rattle.wire.specs.Wire.{unsigned_of}
use Rattle.scalar.specs.Operator.{bit, signed, integer_bytes, rounded, of_bool, double_of}
use Rattle.wire.specs.Wire.{little_endian}
use Rattle.scalar.specs.ValueLaws.{every, integer-rule}

-- ---- little-endian bytes

pub length-little_endian : (n x : ℕ) → length (little_endian n x) ≡ n
unfolding little_endian
length-little_endian zero x = refl
length-little_endian (suc n) x = ap suc (length-little_endian n (x / 256))

pub number-little_endian : (n x : ℕ) → x < 256 ^ n → unsigned_of (little_endian n x) ≡ x
unfolding little_endian unsigned_of
number-little_endian zero x h = omega arith
number-little_endian (suc n) x h =
    let k : x < 256 ^ n * 256 = rw (pow-suc 256 n) at h in
    omega (arith, number-little_endian n (x / 256) (omega arith))

-- Every element is a byte.
pub data Bytes : List ℕ → Type 0 where
  none : Bytes []
  more : {b : ℕ} {v : List ℕ} → b < 256 → Bytes v → Bytes (b ∷ v)

pub little_endian-number : {v : List ℕ} → Bytes v → little_endian (length v) (unsigned_of v) ≡ v
unfolding little_endian unsigned_of
little_endian-number none = refl
little_endian-number (more {b = b} {v = v} h r) =
    let e : (b + 256 * unsigned_of v) % 256 ≡ b = omega arith in
    let f : (b + 256 * unsigned_of v) / 256 ≡ unsigned_of v = omega arith in
    rw (e, f, little_endian-number r) refl

pub number-below : {v : List ℕ} → Bytes v → unsigned_of v < 256 ^ length v
unfolding unsigned_of
number-below none = omega arith
number-below (more {v = v} h r) = let k = number-below r in rw (pow-suc 256 (length v)) (omega arith)

pub bytes-all : (v : List ℕ) → ((k : ℕ) → byte_at v k < 256) → Bytes v
bytes-all [] h = none
bytes-all (b ∷ v) h = more (h 0) (bytes-all v (λ k. h (suc k)))

-- The bytes of a part of a slice are bytes.
pub part_bytes : (s : List ℕ) (at n : ℕ) → ((k : ℕ) → byte_at s k < 256) → at + n ≤ length s → Bytes (part s at n)
part_bytes s at n h l = bytes-all (part s at n) (λ k. by k (leb (suc k) n) refl)
  where
    by : (k : ℕ) (t : Bool) → leb (suc k) n ≡ t → byte_at (part s at n) k < 256
    by k true q =
        let e = leb-true (suc k) n q in
        rw (agree-byte (part-agrees s at n k 1 (omega arith))) (h (at + k))
    by k false q =
        let e = leb-false (suc k) n q in
        rw (byte_past (part s at n) k (omega (arith, length_part s at n l))) (omega arith)

-- ---- integers of a width

whole-bytes : (w : Width) → 2 ^ bits w ≡ 256 ^ (bits w / 8)
whole-bytes w8 = refl
whole-bytes w16 = refl
whole-bytes w32 = refl
whole-bytes w64 = refl
whole-bytes w128 = refl

pub number-bytes : (w : Width) (z : ℤ) → SFits w z → unsigned_of (integer_bytes w z) ≡ of_z w z
number-bytes w z f = number-little_endian (bits w / 8) (of_z w z) (rw (whole-bytes w) at (of_z_fits w z f).fits)

-- 01: "exact at the ends of their ranges": the bytes of an integer of a width stand for it. Over the width, so for int and long.
pub exact : (w : Width) (z : ℤ) → SFits w z → signed w (integer_bytes w z) ≡ z
exact w z f = ap (to_z w) (number-bytes w z f) ∙ to_z-of_z w z f

-- Bytes of the width that are read and written again are the same bytes.
pub bytes_signed : (w : Width) {v : List ℕ} → Bytes v → length v ≡ bits w / 8 → integer_bytes w (signed w v) ≡ v
bytes_signed w {v} h e =
    let l : unsigned_of v < 2 ^ bits w = rw (e, ← whole-bytes w) at (number-below h) in
    ap (little_endian (bits w / 8)) (of_z-to_z w (unsigned_of v) (record { fits = l }))
    ∙ ap (λ (n : ℕ). little_endian n (unsigned_of v)) (sym e) ∙ little_endian-number h

-- ---- doubles

pub double-back : (x : Float) → T (fits binary64 x) → double_of (little_endian 8 (to_bits binary64 x)) ≡ x
double-back x f = ap (of_bits binary64) (number-little_endian 8 (to_bits binary64 x) (to_bits-lt binary64 x f)) ∙ of_bits-to_bits binary64 x f

-- The pattern of a double is a value's: a NaN has the one.
plain-double : (n : ℕ) → nan_bits binary64 n ≡ false → is_double n ≡ true
plain-double n e =
    let l : n % 0x8000000000000000 ≤ 0x7FF0000000000000 = ltb-false 0x7FF0000000000000 (n % 0x8000000000000000) (sym (nan_bits_above binary64 n) ∙ e) in
    rw (le-leb (n % 0x8000000000000000) 0x7FF0000000000000 l) refl

pub double-pattern : (x : Float) → T (fits binary64 x) → is_double (to_bits binary64 x) ≡ true
unfolding to_bits is_nan
double-pattern nan f = refl
double-pattern (inf s) f = plain-double (to_bits binary64 (inf s)) (nan_bits_is binary64 (to_bits binary64 (inf s)) ∙ ap is_nan (of_bits-to_bits binary64 (inf s) f))
double-pattern (fin s m e) f =
    plain-double (to_bits binary64 (fin s m e)) (nan_bits_is binary64 (to_bits binary64 (fin s m e)) ∙ ap is_nan (of_bits-to_bits binary64 (fin s m e) f))

nan_same : to_bits binary64 (of_bits binary64 the_nan) ≡ the_nan
unfolding to_bits of_bits of_fields
nan_same = refl

-- The bytes of a double that are read and written again are the same bytes.
pattern-same : (n : ℕ) → n < 0x10000000000000000 → is_double n ≡ true → to_bits binary64 (of_bits binary64 n) ≡ n
pattern-same n l h = by (leb (n % 0x8000000000000000) 0x7FF0000000000000) (eqb n the_nan) refl refl h
  where
    not-nan : (t : Bool) → t ≡ false → T (not t)
    not-nan true e = let z : ◌≡◌ {A = ℕ} 0 1 = cc in absurd (omega arith)
    not-nan false e = tt

    by : (p q : Bool) → leb (n % 0x8000000000000000) 0x7FF0000000000000 ≡ p → eqb n the_nan ≡ q → (p || q) ≡ true → to_bits binary64 (of_bits binary64 n) ≡ n
    by true q e f k =
        let u = leb-true (n % 0x8000000000000000) 0x7FF0000000000000 e in
        let m : nan_bits binary64 n ≡ false = nan_bits_above binary64 n ∙ le-ltb 0x7FF0000000000000 (n % 0x8000000000000000) u in
        to_bits-of_bits binary64 n l (not-nan (is_nan (of_bits binary64 n)) (sym (nan_bits_is binary64 n) ∙ m))
    by false true e f k = rw (eqb-true n the_nan f) nan_same
    by false false e f k = let z : ◌≡◌ {A = ℕ} 0 1 = cc in absurd (omega arith)

pub double-same : {v : List ℕ} → Bytes v → length v ≡ 8 → is_double (unsigned_of v) ≡ true → little_endian 8 (to_bits binary64 (double_of v)) ≡ v
double-same {v} h e k =
    let l : unsigned_of v < 0x10000000000000000 = rw e at (number-below h) in
    ap (little_endian 8) (pattern-same (unsigned_of v) l k) ∙ ap (λ (n : ℕ). little_endian n (unsigned_of v)) (sym e) ∙ little_endian-number h

-- ---- what is written is a value

pub sound-bool : (t : Bool) → SoundValue bool (of_bool t)
unfolding is_value unsigned_of
sound-bool true = record { basic = refl; rule = refl }
sound-bool false = record { basic = refl; rule = refl }

-- An integer written at the width of its basic type is a value of it.
pub sound-integer : (b : ℕ) (u : Width) (z : ℤ) → (basic_type b).arithmetic ≡ integral u → SoundValue b (value b (integer_bytes u z))
sound-integer b u z e = record {
  basic = refl;
  rule = integer-rule b u (integer_bytes u z) e ∙ eq-eqb _ _ (length-little_endian (bits u / 8) (of_z u z));
}

-- A double written is a value of the basic type of doubles.
pub sound-floating : (b : ℕ) (x : Float) → (basic_type b).arithmetic ≡ floating → T (fits binary64 x) → SoundValue b (value b (rounded x))
unfolding is_value
sound-floating b x e f = record {
  basic = refl;
  rule = every (λ t. t.arithmetic ≡ floating → t.rule (rounded x) ≡ true)
      (λ e. other e) (λ e. integer e)
      (λ e. rw (length-little_endian 8 (to_bits binary64 x), number-little_endian 8 (to_bits binary64 x) (to_bits-lt binary64 x f)) (double-pattern x f))
      (λ e. integer e) (λ e. other e) (λ e. other e) (λ e. other e) (λ e. other e) b e;
}
  where
    other : {A : Type 0} → no_arithmetic ≡ floating → A
    other e = let z : ◌≡◌ {A = ℕ} 0 1 = cc in absurd (omega arith)

    integer : {A : Type 0} {u : Width} → integral u ≡ floating → A
    integer e = let z : ◌≡◌ {A = ℕ} 0 1 = cc in absurd (omega arith)

-- The bytes that are written are bytes.
pub small-little_endian : (n x k : ℕ) → byte_at (little_endian n x) k < 256
unfolding little_endian
small-little_endian zero x k = omega arith
small-little_endian (suc n) x zero = omega arith
small-little_endian (suc n) x (suc k) = small-little_endian n (x / 256) k

pub small-bit : (t : Bool) (k : ℕ) → byte_at (bit t ∷ []) k < 256
small-bit true zero = omega arith
small-bit false zero = omega arith
small-bit t (suc k) = omega arith

-- ---- the bytes of a number that is stored are those of a value

pub little-32 : (v : ℕ) → v < 0x100000000 → u32_bytes v ≡ little_endian 4 v
unfolding little_endian
little-32 v h =
    let b : v / 65536 ≡ v / 256 / 256 = omega arith in
    let c : v / 16777216 ≡ v / 256 / 256 / 256 % 256 = omega arith in
    rw (b, c)

pub little-64 : (v : ℕ) → v < 0x10000000000000000 → u32_bytes (v % 0x100000000) ++ u32_bytes (v / 0x100000000) ≡ little_endian 8 v
unfolding little_endian
little-64 v h =
    let small : v / 256 / 256 / 256 / 256 < 0x100000000 = omega arith in
    let a : v % 0x100000000 % 256 ≡ v % 256 = omega arith in
    let e : v / 256 % 0x1000000 % 256 ≡ v / 256 % 256 = omega arith in
    let f : v / 256 / 256 % 0x10000 % 256 ≡ v / 256 / 256 % 256 = omega arith in
    let w : v / 256 / 0x1000000 ≡ v / 0x100000000 = omega arith in
    let x : v / 256 / 256 / 0x10000 ≡ v / 0x100000000 = omega arith in
    let y : v / 256 / 256 / 256 / 256 ≡ v / 0x100000000 = omega arith in
    let b : v % 0x100000000 / 256 ≡ v / 256 % 0x1000000 = omega (arith, w) in
    let c : v % 0x100000000 / 65536 ≡ v / 256 / 256 % 0x10000 = omega (arith, x) in
    let d : v % 0x100000000 / 16777216 ≡ v / 256 / 256 / 256 % 256 = omega (arith, y) in
    rw (a, b, c, d, e, f, ← y)
    (ap (λ (l : List ℕ). v % 256 ∷ v / 256 % 256 ∷ v / 256 / 256 % 256 ∷ v / 256 / 256 / 256 % 256 ∷ l) (little-32 (v / 256 / 256 / 256 / 256) small))
