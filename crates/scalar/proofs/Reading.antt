-- Values read from a slice and written to one: what each way out of `read` and `write` gives.
use Prim.Native.Nat.{ℕ, ◌+◌, ◌*◌, ◌/◌, ◌≤◌, ◌<◌}
use native.Mathlib.Omega.{arith}
use mathlib.Core.Path.{◌≡◌, refl, sym, ap, ◌∙◌, subst}
use mathlib.Core.Bool.{true, false}
use mathlib.Core.Bool as B
use mathlib.Core.List.{List, [], ◌∷◌, ◌++◌}
use lib.ListN.{length, take, drop, take-append-drop}
use native.Mathlib.Nat.{add-zero}
use borrow.Author.Tests.{eqb-true, eqb-false}
use lib.Dec.{eqb}
use lib.IntN.{ℤ}
use lib.Ieee.{Float, binary64, of_bits, to_bits}
use mir.Syntax.{Width, w32, w64}
use mir.Val.{bool_byte, bits, SFits, to_z, of_z}
use Rattle.wire.specs.Wire.{byte_at, u32_at, u64_at, put_u32, put_u64, part, with_part}
use Rattle.wire.specs.WireLaws.{length_part, put_32, put-64}
use Rattle.scalar.specs.declared.Scalar.{Scalar}
use Rattle.scalar.specs.declared.Scalar.TheVariants.{Bool, Int, Double, Long, String, Raw, Void}
use Rattle.scalar.specs.declared.Operand.{Operand}
use Rattle.scalar.specs.Value.{Value, value, bytes_of, is_value, integral, basic_type}
use Rattle.wire.specs.Wire.{unsigned_of}
use Rattle.scalar.specs.Basic.{bool, int, double, long, string, raw, void}
use Rattle.scalar.specs.ValueLaws.{number-8, number-32, number-64, bool-bytes, integer-bytes, double-bytes, void-bytes, value-size}
use Rattle.scalar.specs.Operator.{bit, signed, integer_bytes, double_of}
use Rattle.wire.specs.Wire.{little_endian}
use Rattle.scalar.specs.NumberLaws.{part_bytes, bytes_signed, double-same, length-little_endian, little-32, little-64}
use Rattle.scalar.specs.Scalar.{value_beside, value_of, beside}

-- ---- read

-- One byte that is 0 or 1.
bit_is : (x : ℕ) (t : B.Bool) → eqb x 1 ≡ t → x ≤ 1 → bit t ≡ x
bit_is x true q h = sym (eqb-true x 1 q)
bit_is x false q h = let e = eqb-false x 1 q in by_two x h e
  where
    by_two : (x : ℕ) → x ≤ 1 → (x ≡ 1 → ⊥) → 0 ≡ x
    by_two x h e = omega arith

one_byte : (v : List ℕ) → length v ≡ 1 → unsigned_of v ∷ [] ≡ v
unfolding unsigned_of
one_byte [] e = absurd (omega arith)
one_byte (a ∷ []) e = let z : a + 256 * 0 ≡ a = omega arith in rw z refl
one_byte (a ∷ (b ∷ v)) e = absurd (omega arith)

module _ (s : List ℕ) (at b n : ℕ) (l : at + n ≤ length s) (h : is_value b (part s at n) ≡ true) (bytes : (k : ℕ) → byte_at s k < 256) where
  long-enough : length (part s at n) ≡ n
  long-enough = length_part s at n l

  pub read-bool : {x : ℕ} {v : Value} → b ≡ bool → x ≡ byte_at s at → v ≡ value_beside (Bool (eqb x 1)) [] → v ≡ value b (part s at n)
  read-bool {x} e q r =
      let k = bool-bytes b (part s at n) h e in
      let z : n ≡ 1 = sym long-enough ∙ k.0 in
      let y : unsigned_of (part s at n) ≡ x = ap (λ (m : ℕ). unsigned_of (part s at m)) z ∙ number-8 s at (omega arith) ∙ sym q in
      r ∙ rw (e, ← one_byte (part s at n) k.0, y, bit_is x (eqb x 1) refl (omega (arith, k.1))) refl

  -- One law for int and long: x is the number of the value's bytes, of which there are as many as the width has.
  pub read-integer : (u : Width) {x : ℕ} {z : ℤ} {v : Value} → (basic_type b).arithmetic ≡ integral u → (n ≡ bits u / 8 → x ≡ unsigned_of (part s at n)) → z ≡ to_z u x
      → v ≡ value b (integer_bytes u z) → v ≡ value b (part s at n)
  read-integer u e q f r =
      let k = integer-bytes b u (part s at n) e h in
      let w : integer_bytes u (signed u (part s at n)) ≡ part s at n = bytes_signed u (part_bytes s at n bytes l) k in
      r ∙ rw (f, q (sym long-enough ∙ k), w) refl

  pub read_int : {x : ℕ} {z : ℤ} {v : Value} → b ≡ int → x ≡ u32_at s at → z ≡ to_z w32 x → v ≡ value_beside (Int z) [] → v ≡ value b (part s at n)
  read_int e q f r =
      read-integer w32 (rw e refl) (λ m. q ∙ sym (ap (λ (i : ℕ). unsigned_of (part s at i)) m ∙ number-32 s at (omega arith))) f (r ∙ rw e refl)

  pub read-long : {x : ℕ} {z : ℤ} {v : Value} → b ≡ long → x ≡ u64_at s at → z ≡ to_z w64 x → v ≡ value_beside (Long z) [] → v ≡ value b (part s at n)
  read-long e q f r =
      read-integer w64 (rw e refl) (λ m. q ∙ sym (ap (λ (i : ℕ). unsigned_of (part s at i)) m ∙ number-64 s at (omega arith))) f (r ∙ rw e refl)

  pub read-double : {x : ℕ} {z : Float} {v : Value} → b ≡ double → x ≡ u64_at s at → z ≡ of_bits binary64 x → v ≡ value_beside (Double z) [] → v ≡ value b (part s at n)
  read-double {x} e q f r =
      let k = double-bytes b (part s at n) h e in
      let m : n ≡ 8 = sym long-enough ∙ k.0 in
      let y : x ≡ unsigned_of (part s at n) = q ∙ sym (ap (λ (i : ℕ). unsigned_of (part s at i)) m ∙ number-64 s at (omega arith)) in
      let w : little_endian 8 (to_bits binary64 (double_of (part s at n))) ≡ part s at n = double-same (part_bytes s at n bytes l) k.0 k.1 in
      r ∙ rw (e, f, y, w) refl

  pub read-string : {v : Value} → b ≡ string → v ≡ value_beside String (part s at n) → v ≡ value b (part s at n)
  read-string e r = r ∙ rw e refl

  pub read-raw : {v : Value} → b ≡ raw → v ≡ value_beside Raw (part s at n) → v ≡ value b (part s at n)
  read-raw e r = r ∙ rw e refl

  pub read-void : {v : Value} → void ≤ b → v ≡ value_beside Void [] → v ≡ value b (part s at n)
  read-void e r = let k = void-bytes b (part s at n) h e in r ∙ rw (k.0, k.1) refl

  pub string-short : b ≡ string → n ≤ 16
  string-short e = omega (arith, value-size b (part s at n) h, long-enough)

  pub raw-short : b ≡ raw → n ≤ 16
  raw-short e = omega (arith, value-size b (part s at n) h, long-enough)

-- ---- write

-- The bytes of an operand's value, by its scalar.
module _ (x : Operand) where
  value-is : {k : Scalar} → x.scalar ≡ k → value_of x ≡ value_beside k (beside x)
  unfolding value_of
  value-is e = ap (λ (k : Scalar). value_beside k (beside x)) e

  pub bool-written : {p : B.Bool} → x.scalar ≡ Bool p → bytes_of (value_of x) ≡ bit p ∷ []
  bool-written e = ap bytes_of (value-is e)

  -- One law for int and long.
  pub integer-written : (n : ℕ) (u : Width) {k : Scalar} (p : ℤ) → x.scalar ≡ k → value_beside k (beside x) ≡ value n (integer_bytes u p) → SFits u p
      → bytes_of (value_of x) ≡ little_endian (bits u / 8) (of_z u p)
  integer-written n u p e q f = ap bytes_of (value-is e ∙ q)

  pub double-written : {p : Float} → x.scalar ≡ Double p → bytes_of (value_of x) ≡ little_endian 8 (to_bits binary64 p)
  double-written e = ap bytes_of (value-is e)

  pub string-written : x.scalar ≡ String → bytes_of (value_of x) ≡ beside x
  string-written e = ap bytes_of (value-is e)

  pub raw-written : x.scalar ≡ Raw → bytes_of (value_of x) ≡ beside x
  raw-written e = ap bytes_of (value-is e)

  pub void-written : x.scalar ≡ Void → bytes_of (value_of x) ≡ []
  void-written e = ap bytes_of (value-is e)

pub byte_bit : (p : B.Bool) → bool_byte p ≡ bit p
byte_bit true = refl
byte_bit false = refl

-- What `write` promises of the slice s that it leaves as t, saying n, where the value's bytes are v.
abbrev pub Written : List ℕ → List ℕ → ℕ → ℕ → List ℕ → Type 0
Written s t at n v = (n ≡ length v) × (t ≡ with_part s at v)

written_as : (s t : List ℕ) (at n : ℕ) {v u : List ℕ} → v ≡ u → Written s t at n u → Written s t at n v
written_as s t at n e w = subst (Written s t at n) (sym e) w

module _ (s t : List ℕ) (at : ℕ) (v : List ℕ) where
  pub wrote-byte : {a r : ℕ} → v ≡ a ∷ [] → r ≡ a → t ≡ with_part s at (r ∷ []) → Written s t at 1 v
  wrote-byte e k w = written_as s t at 1 e (refl, w ∙ ap (λ (i : ℕ). with_part s at (i ∷ [])) k)

  pub wrote-32 : {a r : ℕ} → v ≡ little_endian 4 a → at + length v ≤ length s → r < 0x100000000 → r ≡ a → t ≡ put_u32 s at r → Written s t at 4 v
  wrote-32 {a} {r} e h f k w =
      let l : at + 4 ≤ length s = rw (e, length-little_endian 4 a) at h in
      written_as s t at 4 e (sym (length-little_endian 4 a), w ∙ put_32 s at r l ∙ ap (with_part s at) (little-32 r f ∙ ap (little_endian 4) k))

  pub wrote-64 : {a r : ℕ} → v ≡ little_endian 8 a → at + length v ≤ length s → r < 0x10000000000000000 → r ≡ a → t ≡ put_u64 s at r → Written s t at 8 v
  wrote-64 {a} {r} e h f k w =
      let l : at + 8 ≤ length s = rw (e, length-little_endian 8 a) at h in
      written_as s t at 8 e (sym (length-little_endian 8 a), w ∙ put-64 s at r l ∙ ap (with_part s at) (little-64 r f ∙ ap (little_endian 8) k))

  pub wrote-all : {u : List ℕ} (n : ℕ) → v ≡ u → Written s t at n u → Written s t at n v
  wrote-all n e w = written_as s t at n e w

pub wrote_none : (s : List ℕ) (at : ℕ) (v : List ℕ) → v ≡ [] → Written s s at 0 v
wrote_none s at v e = written_as s s at 0 e (refl, sym (ap (λ (i : ℕ). take at s ++ drop i s) (add-zero at) ∙ take-append-drop at s))

-- Room for the bytes, by how many they are.
pub room : (s : List ℕ) {v : List ℕ} (at n : ℕ) {u : List ℕ} → v ≡ u → length u ≡ n → at + length v ≤ length s → at + n ≤ length s
room s at n e l h = omega (arith, ap length e)
