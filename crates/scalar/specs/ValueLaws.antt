-- Laws of values: bytes that stand in a slice as numbers, and what `is_value` says at each basic type.
use Rattle.std.specs.Prelude.{◌≡◌, Bool, true, false, ◌&&◌, ℕ, zero, suc, ◌+◌, ◌-◌, ◌*◌, ◌/◌, ◌%◌, ◌≤◌, ◌<◌, take, drop, get_or, replicate, eqb, leb}
use Rattle.std.proofs.Math.Path.{refl, sym}
use Rattle.std.proofs.Common.{ap, ◌∙◌, add-zero, add-suc, drop-cons}
use mathlib.Core.List.{List, [], ◌∷◌}
use native.Mathlib.Omega.{arith}
use Rattle.std.proofs.Math.ListN.{length, get_or-eq_default}
use borrow.Author.Tests.{ne_eqb, le-leb, lt-leb, eqb-true, leb-true, leb-false}
use Rattle.std.specs.Int.{Width, w32, w64}
use mir.Val.{bits}
use Rattle.basics.specs.TestLaws.{and-of}
use Rattle.wire.specs.Wire.{byte_at, u16_at, u32_at, u64_at, part}
use Rattle.wire.specs.WireLaws.{length_part}
use Rattle.scalar.specs.Basic.{bool, int, double, long, string, raw, void, last_basic}
use Rattle.scalar.specs.Value.{value, is_value, is_double, SoundText, BasicType, bool_type, int_type, double_type, long_type, string_type}
use Rattle.scalar.specs.Value.{raw_type, void_type, no_type, basic_types, basic_type, least_bytes, integral, no_arithmetic}
use Rattle.wire.specs.Wire.{unsigned_of}
use Rattle.utf8.specs.Utf8.{is_utf8, goes_on}

-- ---- every basic type

-- What holds of each basic type, and of what the table says past its end, holds at every number.
pub every : (P : BasicType → Type 0) → P bool_type → P int_type → P double_type → P long_type → P string_type → P raw_type → P void_type → P no_type
    → (b : ℕ) → P (basic_type b)
every P a i d l s r v n zero = a
every P a i d l s r v n (suc zero) = i
every P a i d l s r v n (suc (suc zero)) = d
every P a i d l s r v n (suc (suc (suc zero))) = l
every P a i d l s r v n (suc (suc (suc (suc zero)))) = s
every P a i d l s r v n (suc (suc (suc (suc (suc zero))))) = r
every P a i d l s r v n (suc (suc (suc (suc (suc (suc zero)))))) = v
every P a i d l s r v n (suc (suc (suc (suc (suc (suc (suc b))))))) = n

pub past-table : (b : ℕ) (v : List ℕ) → last_basic < b → is_value b v ≡ false
unfolding is_value
past-table b v h = ap (λ (t : BasicType). t.rule v) (get_or-eq_default basic_types no_type {n = b} (omega arith))

-- A number that is none of the seven is past the last.
pub past-last : (b : ℕ) → (b ≡ bool → ⊥) → (b ≡ int → ⊥) → (b ≡ double → ⊥) → (b ≡ long → ⊥) → (b ≡ string → ⊥) → (b ≡ raw → ⊥) → (b ≡ void → ⊥)
    → last_basic < b
past-last zero o i d l s r v = absurd (o refl)
past-last (suc zero) o i d l s r v = absurd (i refl)
past-last (suc (suc zero)) o i d l s r v = absurd (d refl)
past-last (suc (suc (suc zero))) o i d l s r v = absurd (l refl)
past-last (suc (suc (suc (suc zero)))) o i d l s r v = absurd (s refl)
past-last (suc (suc (suc (suc (suc zero))))) o i d l s r v = absurd (r refl)
past-last (suc (suc (suc (suc (suc (suc zero)))))) o i d l s r v = absurd (v refl)
past-last (suc (suc (suc (suc (suc (suc (suc b))))))) o i d l s r v = omega arith

-- A number with a value is a basic type's.
pub value-basic : (b : ℕ) (v : List ℕ) → is_value b v ≡ true → b ≤ last_basic
value-basic b v e = by (leb b last_basic) refl
  where
    by : (t : Bool) → leb b last_basic ≡ t → b ≤ last_basic
    by true q = leb-true b last_basic q
    by false q = let z : ◌≡◌ {A = ℕ} 0 1 = cc (past-table b v (leb-false b last_basic q)) in absurd (omega arith)

-- A value has at most 16 bytes.
pub value-size : (b : ℕ) (v : List ℕ) → is_value b v ≡ true → length v ≤ 16
unfolding is_value
value-size b v =
    every (λ t. t.rule v ≡ true → length v ≤ 16)
    (λ e. omega (arith, eqb-true (length v) 1 (and-of (eqb (length v) 1) (leb (unsigned_of v) 1) e).0))
    (λ e. omega (arith, eqb-true (length v) 4 e))
    (λ e. omega (arith, eqb-true (length v) 8 (and-of (eqb (length v) 8) (is_double (unsigned_of v)) e).0))
    (λ e. omega (arith, eqb-true (length v) 8 e))
    (λ e. leb-true (length v) 16 (and-of (leb (length v) 16) (is_utf8 v) e).0)
    (leb-true (length v) 16)
    (λ e. omega (arith, eqb-true (length v) 0 e))
    (λ e. let z : ◌≡◌ {A = ℕ} 0 1 = cc in absurd (omega arith)) b

-- What is none is not another.
apart : {A : Type 0} {u : Width} → no_arithmetic ≡ integral u → A
apart e = let z : ◌≡◌ {A = ℕ} 0 1 = cc in absurd (omega arith)

-- The value rule of every integer type: as many bytes as its width has.
pub integer-rule : (b : ℕ) (u : Width) (v : List ℕ) → (basic_type b).arithmetic ≡ integral u → is_value b v ≡ eqb (length v) (bits u / 8)
unfolding is_value
integer-rule b u v =
    every (λ t. t.arithmetic ≡ integral u → t.rule v ≡ eqb (length v) (bits u / 8))
    apart
    (λ e. let q : u ≡ w32 = cc in rw q refl)
    (λ e. let z : ◌≡◌ {A = ℕ} 0 1 = cc in absurd (omega arith))
    (λ e. let q : u ≡ w64 = cc in rw q refl)
    apart apart apart apart b

-- A value of an integer type has the bytes of its width.
pub integer-bytes : (b : ℕ) (u : Width) (v : List ℕ) → (basic_type b).arithmetic ≡ integral u → is_value b v ≡ true → length v ≡ bits u / 8
integer-bytes b u v e h = eqb-true (length v) (bits u / 8) (sym (integer-rule b u v e) ∙ h)

-- The least value of a basic type is a value of it.
pub least-value : (b : ℕ) → b ≤ last_basic → is_value b (least_bytes b) ≡ true
unfolding is_value least_bytes unsigned_of goes_on
least-value zero h = refl
least-value (suc zero) h = refl
least-value (suc (suc zero)) h = refl
least-value (suc (suc (suc zero))) h = refl
least-value (suc (suc (suc (suc zero)))) h = refl
least-value (suc (suc (suc (suc (suc zero))))) h = refl
least-value (suc (suc (suc (suc (suc (suc zero)))))) h = refl
least-value (suc (suc (suc (suc (suc (suc (suc b))))))) h = absurd (omega arith)

-- Its bytes are zeros.
pub least-zeros : (b : ℕ) → least_bytes b ≡ replicate (length (least_bytes b)) 0
unfolding least_bytes
least-zeros = every (λ t. t.least ≡ replicate (length t.least) 0) refl refl refl refl refl refl refl refl

-- No value of the basic type has fewer bytes.
pub least-short : (b : ℕ) (v : List ℕ) → is_value b v ≡ true → length (least_bytes b) ≤ length v
unfolding is_value least_bytes
least-short b v =
    every (λ t. t.rule v ≡ true → length t.least ≤ length v)
    (λ e. omega (arith, eqb-true (length v) 1 (and-of (eqb (length v) 1) (leb (unsigned_of v) 1) e).0))
    (λ e. omega (arith, eqb-true (length v) 4 e))
    (λ e. omega (arith, eqb-true (length v) 8 (and-of (eqb (length v) 8) (is_double (unsigned_of v)) e).0))
    (λ e. omega (arith, eqb-true (length v) 8 e))
    (λ e. omega arith) (λ e. omega arith) (λ e. omega arith) (λ e. omega arith) b

-- Of a basic type that is none of these the least value has no byte.
pub least-empty : (b : ℕ) → (b ≡ bool → ⊥) → (b ≡ int → ⊥) → (b ≡ double → ⊥) → (b ≡ long → ⊥) → least_bytes b ≡ []
unfolding least_bytes
least-empty zero o i d l = absurd (o refl)
least-empty (suc zero) o i d l = absurd (i refl)
least-empty (suc (suc zero)) o i d l = absurd (d refl)
least-empty (suc (suc (suc zero))) o i d l = absurd (l refl)
least-empty (suc (suc (suc (suc zero)))) o i d l = refl
least-empty (suc (suc (suc (suc (suc zero))))) o i d l = refl
least-empty (suc (suc (suc (suc (suc (suc zero)))))) o i d l = refl
least-empty (suc (suc (suc (suc (suc (suc (suc b))))))) o i d l = refl

-- ---- the number of some bytes of a slice

-- The number of the k bytes at at + j, byte by byte.
abbrev bytes_at : List ℕ → ℕ → ℕ → ℕ → ℕ
bytes_at s at j zero = 0
bytes_at s at j (suc k) = get_or s (at + j) 0 + 256 * bytes_at s at (suc j) k

number_at : (s : List ℕ) (at j k : ℕ) → at + j + k ≤ length s → unsigned_of (take k (drop (at + j) s)) ≡ bytes_at s at j k
unfolding unsigned_of
number_at s at j zero h = refl
number_at s at j (suc k) h =
    rw (drop-cons s (at + j) 0 (omega arith), ← add-suc at j, number_at s at (suc j) k (omega arith)) refl

pub number-8 : (s : List ℕ) (at : ℕ) → at + 1 ≤ length s → unsigned_of (part s at 1) ≡ byte_at s at
number-8 s at h = rw (add-zero at) at (number_at s at 0 1 (omega arith)) ∙ omega arith

pub number-32 : (s : List ℕ) (at : ℕ) → at + 4 ≤ length s → unsigned_of (part s at 4) ≡ u32_at s at
unfolding u32_at u16_at
number-32 s at h =
    let e : at + 2 + 1 ≡ at + 3 = omega arith in
    rw e (rw (add-zero at) at (number_at s at 0 4 (omega arith)) ∙ omega arith)

pub number-64 : (s : List ℕ) (at : ℕ) → at + 8 ≤ length s → unsigned_of (part s at 8) ≡ u64_at s at
unfolding u64_at
number-64 s at h =
    let a = rw (add-zero at) at (number_at s at 0 8 (omega arith)) in
    let b = rw (add-zero at) at (number_at s at 0 4 (omega arith)) in
    let c = number_at s at 4 4 (omega arith) in
    omega (arith, a, b, c, number-32 s at (omega arith), number-32 s (at + 4) (omega arith))

-- ---- a value that stands in a slice, one law for each way out of `value_ok`

module _ (s : List ℕ) (at b n : ℕ) (h : at + n ≤ length s) where
  abbrev Says : Bool → Type 0
  Says t = t ≡ is_value b (take n (drop at s))

  pub bool-value : (x : ℕ) → b ≡ bool → n ≡ 1 → x ≡ byte_at s at → Says (leb x 1)
  unfolding is_value
  bool-value x e k q =
      let z : unsigned_of (take 1 (drop at s)) ≡ x = number-8 s at (omega arith) ∙ sym q in
      rw (e, length_part s at n h, k, z) refl

  pub bool-long : b ≡ bool → (n ≡ 1 → ⊥) → Says false
  unfolding is_value
  bool-long e k = rw (e, length_part s at n h, ne_eqb n 1 k) refl

  pub integer-value : (u : Width) → (basic_type b).arithmetic ≡ integral u → Says (eqb n (bits u / 8))
  integer-value u e = sym (integer-rule b u (take n (drop at s)) e ∙ ap (λ (k : ℕ). eqb k (bits u / 8)) (length_part s at n h))

  pub double-plain : (x : ℕ) → b ≡ double → n ≡ 8 → x ≡ u64_at s at → x % 0x8000000000000000 ≤ 0x7FF0000000000000 → Says true
  unfolding is_value
  double-plain x e k q l =
      let z : unsigned_of (take 8 (drop at s)) ≡ x = number-64 s at (omega arith) ∙ sym q in
      rw (e, length_part s at n h, k, z, le-leb (x % 0x8000000000000000) 0x7FF0000000000000 l) refl

  pub double-nan : (x : ℕ) → b ≡ double → n ≡ 8 → x ≡ u64_at s at → 0x7FF0000000000000 < x % 0x8000000000000000 → Says (eqb x 0x7FF8000000000000)
  unfolding is_value
  double-nan x e k q l =
      let z : unsigned_of (take 8 (drop at s)) ≡ x = number-64 s at (omega arith) ∙ sym q in
      rw (e, length_part s at n h, k, z, lt-leb (x % 0x8000000000000000) 0x7FF0000000000000 l) refl

  pub double-long : b ≡ double → (n ≡ 8 → ⊥) → Says false
  unfolding is_value
  double-long e k = rw (e, length_part s at n h, ne_eqb n 8 k) refl

  pub string-value : {t : Bool} → b ≡ string → t ≡ is_value string (take n (drop at s)) → Says t
  string-value e q = q ∙ ap (λ (k : ℕ). is_value k (take n (drop at s))) (sym e)

  pub raw-value : b ≡ raw → Says (leb n 16)
  unfolding is_value
  raw-value e = rw (e, length_part s at n h) refl

  pub void-value : b ≡ void → Says (eqb n 0)
  unfolding is_value
  void-value e = rw (e, length_part s at n h) refl

  pub no_value : last_basic < b → Says false
  no_value e = sym (past-table b (take n (drop at s)) e)

-- ---- a string that stands in a slice, one law for each way out of `is_string`

module _ (s : List ℕ) (at n : ℕ) (h : at + n ≤ length s) where
  pub string-long : 16 < n → false ≡ is_value string (take n (drop at s))
  unfolding is_value
  string-long k = rw (length_part s at n h, lt-leb n 16 k) refl

  pub string-short : {t : Bool} → n ≤ 16 → t ≡ is_utf8 (take (at + n - at) (drop at s)) → t ≡ is_value string (take n (drop at s))
  unfolding is_value
  string-short k q =
      let e : at + n - at ≡ n = omega arith in
      rw (length_part s at n h, le-leb n 16 k) (rw e at q)

-- ---- what the value rule tells of the bytes

module _ (b : ℕ) (v : List ℕ) (h : is_value b v ≡ true) where
  pub bool-bytes : b ≡ bool → (length v ≡ 1) × (unsigned_of v ≤ 1)
  unfolding is_value
  bool-bytes e =
      let k = and-of (eqb (length v) 1) (leb (unsigned_of v) 1) (rw e at h) in
      (eqb-true (length v) 1 k.0, leb-true (unsigned_of v) 1 k.1)

  pub double-bytes : b ≡ double → (length v ≡ 8) × (is_double (unsigned_of v) ≡ true)
  unfolding is_value
  double-bytes e =
      let k = and-of (eqb (length v) 8) (is_double (unsigned_of v)) (rw e at h) in
      (eqb-true (length v) 8 k.0, k.1)

  pub void-bytes : void ≤ b → (b ≡ void) × (v ≡ [])
  unfolding is_value
  void-bytes k =
      let e : b ≡ void = omega (arith, value-basic b v h) in
      (e, empty v (eqb-true (length v) 0 (rw e at h)))
    where
      empty : (u : List ℕ) → length u ≡ 0 → u ≡ []
      empty [] e = refl
      empty (a ∷ u) e = absurd (omega arith)

-- ---- values of one basic type

pub void-empty : (v : List ℕ) → is_value void v ≡ true → v ≡ []
void-empty v e = (void-bytes void v e (omega arith)).1

pub empty-void : is_value void [] ≡ true
unfolding is_value
empty-void = refl

pub raw-short : (v : List ℕ) → length v ≤ 16 → is_value raw v ≡ true
unfolding is_value
raw-short v h = le-leb (length v) 16 h

-- A string is well-formed UTF-8.
pub string-rule : (v : List ℕ) → is_value string v ≡ (leb (length v) 16 && is_utf8 v)
unfolding is_value
string-rule v = refl

pub string-utf8 : (v : List ℕ) → is_value string v ≡ true → is_utf8 v ≡ true
string-utf8 v h = (and-of (leb (length v) 16) (is_utf8 v) (sym (string-rule v) ∙ h)).1

-- The empty string, and any value by the rule of its basic type, is sound as text.
pub empty-string : is_value string [] ≡ true
unfolding is_value goes_on
empty-string = refl

pub value-text : (b : ℕ) (v : List ℕ) → is_value b v ≡ true → SoundText (value b v)
value-text b v h = record { rule = λ e. ap (λ (k : ℕ). is_value k v) (sym e) ∙ h }
