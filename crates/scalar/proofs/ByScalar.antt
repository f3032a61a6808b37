-- A value by its scalar: what it says as a condition, and its basic type. And the words of basic types.
use Prim.Native.Nat.{ℕ, ◌≤◌, ◌<◌}
use native.Mathlib.Omega.{arith}
use mathlib.Core.Path.{◌≡◌, refl, sym, ap, subst, ◌∙◌}
use mathlib.Core.Bool.{Bool, true, false}
use mathlib.Core.List.{[], ◌∷◌}
use lib.ListN.{length, length-take, get_or-eq_default}
use lib.Dec.{T, eqb}
use lib.IntN.{ℤ}
use lib.Ieee.{Float, binary64, fits}
use mir.Syntax.{w32, w64}
use Rattle.scalar.specs.declared.Scalar.{Scalar}
use Rattle.scalar.specs.declared.Operand.{Operand}
use Rattle.scalar.specs.Basic.{bool, int, double, long, string, raw, void, last_basic}
use Rattle.scalar.specs.Value.{Value, value, basic_of, SoundValue, SoundText, BasicType, basic_types, no_type, basic_type, word_of, least_bytes}
use Rattle.wire.specs.Wire.{unsigned_of}
use Rattle.scalar.specs.ValueLaws.{raw-short, empty-void}
use Rattle.scalar.specs.Operator.{bit}
use Rattle.scalar.specs.NumberLaws.{sound-bool, sound-integer, sound-floating}
use Rattle.scalar.specs.Scalar.{value_of, value_beside, beside, kind_of, truth_of}
use Rattle.scalar.proofs.Operating.{value-is}
use Rattle.std.specs.Prelude.{Some, None}
use borrow.Author.Tests.{ne_eqb}
use Rattle.scalar.specs.ScalarLaws.{basic-kind}

-- ---- conditions

bit-back : (p : Bool) → Some (eqb (unsigned_of (bit p ∷ [])) 1) ≡ Some p
unfolding unsigned_of
bit-back true = refl
bit-back false = refl

no_bool : (v : Value) → (basic_of v ≡ bool → ⊥) → None ≡ truth_of v
unfolding truth_of
no_bool (value b t) n = rw (ne_eqb b bool n) refl

module _ (v : Operand) where
  pub truth-bool : {p : Bool} → v.scalar ≡ Scalar.Bool p → Some p ≡ truth_of (value_of v)
  unfolding truth_of
  truth-bool {p} e = rw (value-is v e) (sym (bit-back p))

  pub truth-other : (kind_of v.scalar ≡ bool → ⊥) → None ≡ truth_of (value_of v)
  unfolding value_of
  truth-other n = no_bool (value_of v) (λ e. n (sym (basic-kind v.scalar (beside v)) ∙ e))

  -- ---- basic types

  sound-as : {k : Scalar} (b : ℕ) → v.scalar ≡ k → SoundValue b (value_beside k (beside v)) → SoundValue b (value_of v)
  sound-as {k} b e h = subst (SoundValue b) (sym (value-is v e)) h

  pub kind-bool : {p : Bool} → v.scalar ≡ Scalar.Bool p → SoundValue bool (value_of v)
  kind-bool {p} e = sound-as bool e (sound-bool p)

  pub kind-int : {z : ℤ} → v.scalar ≡ Scalar.Int z → SoundValue int (value_of v)
  kind-int {z} e = sound-as int e (sound-integer int w32 z refl)

  pub kind-double : {x : Float} → v.scalar ≡ Scalar.Double x → T (fits binary64 x) → SoundValue double (value_of v)
  kind-double {x} e f = sound-as double e (sound-floating double x refl f)

  pub kind-long : {z : ℤ} → v.scalar ≡ Scalar.Long z → SoundValue long (value_of v)
  kind-long {z} e = sound-as long e (sound-integer long w64 z refl)

  pub kind-void : v.scalar ≡ Scalar.Void → SoundValue void (value_of v)
  kind-void e = sound-as void e (record { basic = refl; rule = empty-void })

  pub kind-string : SoundText (value_of v) → v.scalar ≡ Scalar.String → SoundValue string (value_of v)
  kind-string h e = let k = ap basic_of (value-is v e) in record { basic = k; rule = h.rule k }

  module _ (l : length v.bytes ≡ 16) where
    short : length (beside v) ≤ 16
    short = omega (arith, length-take v.len v.bytes)

    pub kind-raw : v.scalar ≡ Scalar.Raw → SoundValue raw (value_of v)
    kind-raw e = sound-as raw e (record { basic = refl; rule = raw-short (beside v) short })

pub ruleset kind-laws = (kind-bool, kind-int, kind-long, kind-string, kind-void)

-- ---- words

pub word-is : {b k : ℕ} → b ≡ k → (basic_type k).word ≡ word_of b
unfolding word_of
word-is e = rw e refl

pub least-is : {b k : ℕ} → b ≡ k → least_bytes b ≡ (basic_type k).least
unfolding least_bytes
least-is e = rw e refl

pub word-past : (b : ℕ) → last_basic < b → [] ≡ word_of b
unfolding word_of
word-past b h = sym (ap (λ (t : BasicType). t.word) (get_or-eq_default basic_types no_type {n = b} (omega arith)))
