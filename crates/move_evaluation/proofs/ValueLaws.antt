-- Laws of values: constants, presence, operators; one for each way out of the functions.
use Prim.Native.Nat.{ℕ, ◌+◌, ◌-◌, ◌≤◌}
use mathlib.Core.Path.{◌≡◌, refl, sym, ◌∙◌, ap, subst}
use mathlib.Core.List.{List, []}
use mathlib.Core.Bool.{Bool, true, false, not, ◌&&◌}
use native.Mathlib.Omega.{arith}
use lib.ListN.{length, take, drop, length-drop}
use Rattle.basics.specs.TestLaws.{and-of, apart, told, true-false, untold}
use Rattle.wire.specs.Wire.{part}
use Rattle.scalar.specs.Value.{Value, value, basic_of, is_value, SoundText}
use Rattle.scalar.specs.Operator.{not_of, negate_of, add_of, subtract_of, less_of, equal_of, and_of}
use Rattle.scalar.specs.Scalar.{value_of, value_beside, answer_of, kind_of, truth_of}
use Rattle.scalar.specs.ScalarLaws.{basic-kind, plain-text, read-text}
use Rattle.scalar.specs.declared.Operand.{Operand}
use Rattle.scalar.specs.declared.Scalar.{Scalar}
use Rattle.scalar.specs.declared.Failure.{Failure}
use Rattle.network_layout.specs.Loops.{clip, clip-below, drop-clip, take-clip}
use Rattle.network.specs.Layout.{D, start, data_part}
use Rattle.network_row_parts.specs.Parts.{unary_of, binary_of}
use Rattle.network_row_parts.specs.declared.UnaryOperator.{UnaryOperator}
use Rattle.network_row_parts.specs.declared.BinaryOperator.{BinaryOperator}
use Rattle.move_rules.specs.Evaluation.{Evaluation, missing, wrong_kind, beyond, given, answered, apply_unary, apply_binary}
use Rattle.move_rules.specs.OperatorLaws.{without_value}
use Rattle.move_evaluation.specs.declared.Evaluated.{Evaluated}
use Rattle.move_evaluation.specs.declared.Place.{Place}
use Rattle.move_evaluation.specs.declared.Fault.{Fault}
use Rattle.move_evaluation.specs.Condition.{decision_by, without_truth, decision_of, condition_of}
use Rattle.move_evaluation.specs.Evaluated.{is_given, has_kind, on_source, literal, unary_on, binary_on, AloneAs, Computes}
use Rattle.std.specs.Prelude.{Option, Some, None, Ok, Err}
use Rattle.std.specs.Option.{ok_or}
use Rattle.std.specs.Prelude as std

computes-as : {x : Evaluated} {v w : Evaluation Value} → v ≡ w → Computes x v → Computes x w
computes-as {x} e h = subst (Computes x) e h

pub value-alone : (v : Operand) {w : Value} {x : Evaluated} → value_of v ≡ w → Computes x (given (value_of v)) → Computes x (given w)
value-alone v e h = computes-as (ap given e) h

pub answer-wrong : {c : std.Result Scalar Failure} {x : Evaluated} → c ≡ Err Failure.Wrong → Computes x wrong_kind → Computes x (answered (answer_of c))
unfolding answer_of
answer-wrong e h = computes-as (sym (ap (λ (c : std.Result Scalar Failure). answered (answer_of c)) e)) h

pub answer-gives : (v : Operand) {c : std.Result Scalar Failure} {y : Scalar} {x : Evaluated} → c ≡ Ok y → value_of v ≡ value_beside y []
    → Computes x (given (value_of v)) → Computes x (answered (answer_of c))
unfolding answer_of
answer-gives v e f h = computes-as (ap given f ∙ sym (ap (λ (c : std.Result Scalar Failure). answered (answer_of c)) e)) h

-- Where nothing is given, the root says nothing: it is a scalar with no bytes beside it.
pub none-missing : (v : Operand) (y : Scalar) → value_of v ≡ value_beside y [] → Computes (record { source = (Err Fault.Missing); root = v }) missing
none-missing v y e = record { gives = refl; text = plain-text v y e }

pub none-wrong : (v : Operand) (y : Scalar) → value_of v ≡ value_beside y [] → Computes (record { source = (Err Fault.Wrong); root = v }) wrong_kind
none-wrong v y e = record { gives = refl; text = plain-text v y e }

-- The root beside a result outside its width has the scalar's kind.
pub outside-kind : (v : Operand) (y : Scalar) → value_of v ≡ value_beside y [] → Computes (record { source = (Err Fault.Outside); root = v }) (beyond (kind_of y))
outside-kind v y e = record { gives = ap beyond (sym (ap basic_of e ∙ basic-kind y [])); text = plain-text v y e }

pub answer-outside : {c : std.Result Scalar Failure} {y : Scalar} {x : Evaluated} → c ≡ Err (Failure.Outside y) → Computes x (beyond (kind_of y)) → Computes x (answered (answer_of c))
unfolding answer_of
answer-outside e h = computes-as (sym (ap (λ (c : std.Result Scalar Failure). answered (answer_of c)) e)) h

pub ruleset answer-laws = (value-alone, outside-kind, answer-wrong, answer-outside, answer-gives)

-- ---- an operator's answer without its value

abbrev Kind : std.Result Scalar Failure → Evaluation Value
Kind c = without_value (answered (answer_of c))

pub kind-wrong : {c : std.Result Scalar Failure} {x : Evaluated} → c ≡ Err Failure.Wrong → Computes x wrong_kind → Computes x (without_value (answered (answer_of c)))
unfolding answer_of
kind-wrong e h = computes-as (sym (ap Kind e)) h

pub kind-outside : {c : std.Result Scalar Failure} {y : Scalar} {x : Evaluated} → c ≡ Err (Failure.Outside y) → Computes x (beyond (kind_of y))
    → Computes x (without_value (answered (answer_of c)))
unfolding answer_of
kind-outside e h = computes-as (sym (ap Kind e)) h

pub kind-gives : {c : std.Result Scalar Failure} {y : Scalar} {x : Evaluated} → c ≡ Ok y → Computes x (beyond (kind_of y))
    → Computes x (without_value (answered (answer_of c)))
unfolding answer_of
kind-gives {y = y} e h = computes-as (sym (ap Kind e ∙ ap beyond (basic-kind y []))) h

pub ruleset kind-laws = (kind-wrong, kind-outside, kind-gives)

-- ---- operators on values

module _ (o : UnaryOperator) (v : Operand) (c : std.Result Scalar Failure) where
  abbrev Applies : Type 0
  Applies = answered (answer_of c) ≡ apply_unary (unary_of o) (value_of v)

  pub not-applies : o ≡ UnaryOperator.Not → answer_of c ≡ not_of (value_of v) → Applies
  not-applies e f = ap answered f ∙ sym (ap (λ (o : UnaryOperator). apply_unary (unary_of o) (value_of v)) e)

  pub negate-applies : o ≡ UnaryOperator.Negate → answer_of c ≡ negate_of (value_of v) → Applies
  negate-applies e f = ap answered f ∙ sym (ap (λ (o : UnaryOperator). apply_unary (unary_of o) (value_of v)) e)

module _ (o : BinaryOperator) (v w : Operand) (c : std.Result Scalar Failure) where
  abbrev AppliesBoth : Type 0
  AppliesBoth = answered (answer_of c) ≡ apply_binary (binary_of o) (value_of v) (value_of w)

  by : (p : BinaryOperator) → o ≡ p → answered (answer_of c) ≡ apply_binary (binary_of p) (value_of v) (value_of w) → AppliesBoth
  by p e f = f ∙ sym (ap (λ (o : BinaryOperator). apply_binary (binary_of o) (value_of v) (value_of w)) e)

  pub add-applies : o ≡ BinaryOperator.Add → answer_of c ≡ add_of (value_of v) (value_of w) → AppliesBoth
  add-applies e f = by BinaryOperator.Add e (ap answered f)

  pub subtract-applies : o ≡ BinaryOperator.Subtract → answer_of c ≡ subtract_of (value_of v) (value_of w) → AppliesBoth
  subtract-applies e f = by BinaryOperator.Subtract e (ap answered f)

  pub less-applies : o ≡ BinaryOperator.Less → answer_of c ≡ less_of (value_of v) (value_of w) → AppliesBoth
  less-applies e f = by BinaryOperator.Less e (ap answered f)

  pub equal-applies : o ≡ BinaryOperator.Equal → answer_of c ≡ equal_of (value_of v) (value_of w) → AppliesBoth
  equal-applies e f = by BinaryOperator.Equal e (ap answered f)

  pub and-applies : o ≡ BinaryOperator.And → answer_of c ≡ and_of (value_of v) (value_of w) → AppliesBoth
  and-applies e f = by BinaryOperator.And e (ap answered f)

pub ruleset operator-laws = (not-applies, negate-applies, add-applies, subtract-applies, less-applies, equal-applies, and-applies)

-- ---- operators on what evaluation answers

-- Where no kind is known, the answer itself stays; of a value outside its width the kind counts; else what follows.
source_stays : (k : std.Result Place Fault) (v : Operand) (w : Evaluation Value) → has_kind k ≡ false → AloneAs k v (on_source k w)
source_stays (Ok (Place.At at)) v w e = true-false e
source_stays (Ok Place.Alone) v w e = true-false e
source_stays (Err Fault.Missing) v w e = refl
source_stays (Err Fault.Wrong) v w e = refl
source_stays (Err Fault.Outside) v w e = true-false e

source-gives : (k : std.Result Place Fault) (w : Evaluation Value) → is_given k ≡ true → on_source k w ≡ w
source-gives (Ok (Place.At at)) w e = refl
source-gives (Ok Place.Alone) w e = refl
source-gives (Err Fault.Missing) w e = apart e
source-gives (Err Fault.Wrong) w e = apart e
source-gives (Err Fault.Outside) w e = apart e

source-kind : (k : std.Result Place Fault) (w : Evaluation Value) → is_given k ≡ false → has_kind k ≡ true → on_source k w ≡ without_value w
source-kind (Ok (Place.At at)) w e f = true-false e
source-kind (Ok Place.Alone) w e f = true-false e
source-kind (Err Fault.Missing) w e f = apart f
source-kind (Err Fault.Wrong) w e f = apart f
source-kind (Err Fault.Outside) w e f = refl

-- Without the value, a source of known kind counts for nothing more.
kind-passes : (k : std.Result Place Fault) (w : Evaluation Value) → has_kind k ≡ true → without_value (on_source k w) ≡ without_value w
kind-passes (Ok (Place.At at)) w e = refl
kind-passes (Ok Place.Alone) w e = refl
kind-passes (Err Fault.Missing) w e = apart e
kind-passes (Err Fault.Wrong) w e = apart e
kind-passes (Err Fault.Outside) missing e = refl
kind-passes (Err Fault.Outside) wrong_kind e = refl
kind-passes (Err Fault.Outside) (beyond b) e = refl
kind-passes (Err Fault.Outside) (given v) e = refl

-- A source of known kind lets the other's answer stay.
kind-stays : (k j : std.Result Place Fault) (w : Evaluation Value) → has_kind k ≡ true → has_kind j ≡ false → on_source k (on_source j w) ≡ on_source j w
kind-stays (Ok (Place.At at)) j w e f = refl
kind-stays (Ok Place.Alone) j w e f = refl
kind-stays (Err Fault.Missing) j w e f = apart e
kind-stays (Err Fault.Wrong) j w e f = apart e
kind-stays (Err Fault.Outside) (Ok (Place.At at)) w e f = true-false f
kind-stays (Err Fault.Outside) (Ok Place.Alone) w e f = true-false f
kind-stays (Err Fault.Outside) (Err Fault.Missing) w e f = refl
kind-stays (Err Fault.Outside) (Err Fault.Wrong) w e f = refl
kind-stays (Err Fault.Outside) (Err Fault.Outside) w e f = true-false f

-- Two sources of known kinds that are not both given.
kinds-alone : (k j : std.Result Place Fault) (w : Evaluation Value) → (is_given k && is_given j) ≡ false → has_kind k ≡ true → has_kind j ≡ true
    → on_source k (on_source j w) ≡ without_value w
kinds-alone (Ok (Place.At at)) j w e f g = source-kind j w e g
kinds-alone (Ok Place.Alone) j w e f g = source-kind j w e g
kinds-alone (Err Fault.Missing) j w e f g = apart f
kinds-alone (Err Fault.Wrong) j w e f g = apart f
kinds-alone (Err Fault.Outside) j w e f g = kind-passes j w g

answer-stays : (x : Evaluated) (w : Evaluation Value) {t : Bool} → SoundText (value_of x.root) → t ≡ has_kind x.source → not t ≡ true
    → Computes x (on_source x.source w)
answer-stays x w text e f = record { gives = source_stays x.source x.root w (untold e f); text = text }

module _ (o : UnaryOperator) (x : Evaluated) {t : Bool} (e : t ≡ is_given x.source) where
  pub unary-gives : {z : Evaluated} (c : std.Result Scalar Failure) → t ≡ true → answered (answer_of c) ≡ apply_unary (unary_of o) (value_of x.root)
      → Computes z (answered (answer_of c)) → Computes z (unary_on o x)
  unfolding unary_on
  unary-gives c f g h = computes-as (g ∙ sym (source-gives x.source _ (sym e ∙ f))) h

  module _ {u : Bool} (f : t ≡ false) (d : u ≡ has_kind x.source) where
    pub unary-stays : SoundText (value_of x.root) → not u ≡ true → Computes x (unary_on o x)
    unfolding unary_on
    unary-stays text g = answer-stays x _ text d g

    pub unary-kind : {z : Evaluated} (c : std.Result Scalar Failure) → not u ≡ false → answered (answer_of c) ≡ apply_unary (unary_of o) (value_of x.root)
        → Computes z (without_value (answered (answer_of c))) → Computes z (unary_on o x)
    unfolding unary_on
    unary-kind c q g h = computes-as (ap without_value g ∙ sym (source-kind x.source _ (sym e ∙ f) (told d q))) h

module _ (o : BinaryOperator) (x y : Evaluated) {t : Bool} (e : t ≡ (is_given x.source && is_given y.source)) where
  pub binary-gives : {z : Evaluated} (c : std.Result Scalar Failure) → t ≡ true → answered (answer_of c) ≡ apply_binary (binary_of o) (value_of x.root) (value_of y.root)
      → Computes z (answered (answer_of c)) → Computes z (binary_on o x y)
  unfolding binary_on
  binary-gives c f g h =
      let b = and-of (is_given x.source) (is_given y.source) (sym e ∙ f) in
      computes-as (g ∙ sym (source-gives x.source _ b.0 ∙ source-gives y.source _ b.1)) h

  module _ {u : Bool} (f : t ≡ false) (d : u ≡ has_kind x.source) where
    pub left-stays : SoundText (value_of x.root) → not u ≡ true → Computes x (binary_on o x y)
    unfolding binary_on
    left-stays text g = answer-stays x _ text d g

    module _ {v : Bool} (g : not u ≡ false) (i : v ≡ has_kind y.source) where
      pub right-stays : SoundText (value_of y.root) → not v ≡ true → Computes y (binary_on o x y)
      unfolding binary_on
      right-stays text j = computes-as (sym (kind-stays x.source y.source _ (told d g) (untold i j))) (answer-stays y _ text i j)

      pub binary-kind : {z : Evaluated} (c : std.Result Scalar Failure) → not v ≡ false
          → answered (answer_of c) ≡ apply_binary (binary_of o) (value_of x.root) (value_of y.root)
          → Computes z (without_value (answered (answer_of c))) → Computes z (binary_on o x y)
      unfolding binary_on
      binary-kind c j k h = computes-as (ap without_value k ∙ sym (kinds-alone x.source y.source _ (sym e ∙ f) (told d g) (told i j))) h

pub ruleset operand-laws = (unary-gives, unary-stays, unary-kind, binary-gives, left-stays, right-stays, binary-kind)

-- ---- constants: the bytes of D, as far as there are so many

pub from-inside : (s : List ℕ) (at from : ℕ) → from ≡ clip at (length s) → from ≤ length s
from-inside s at from p = omega (arith, (clip-below at (length s)).1)

module _ (s : List ℕ) (at n from len : ℕ) (p : from ≡ clip at (length s)) (q : len ≡ clip n (length s - from)) where
  pub part-inside : from + len ≤ length s
  part-inside = omega (arith, (clip-below at (length s)).1, (clip-below n (length s - from)).1)

  part-clip : part s from len ≡ part s at n
  part-clip =
      let d : drop from s ≡ drop at s = ap (λ (x : ℕ). drop x s) p ∙ drop-clip s at in
      let l : length s - from ≡ length (drop from s) = sym (length-drop from s) in
      ap (λ (x : ℕ). take x (drop from s)) (q ∙ ap (clip n) l) ∙ take-clip (drop from s) n ∙ ap (take n) d

  -- The start of D and the field of the constant's start give `at`.
  module _ (b d i v m : ℕ) (f : d ≡ start s D) (g : i ≡ v) (k : at ≡ d + i) (j : n ≡ m) where
    part-data : part s from len ≡ data_part s v m
    unfolding data_part
    part-data = part-clip ∙ rw (k, f, g, j) refl

    pub constant-value : (y : Operand) {t : Bool} {x : Evaluated} → t ≡ is_value b (part s from len) → t ≡ true → value_of y ≡ value b (part s from len)
        → Computes x (given (value_of y)) → Computes x (literal b (data_part s v m))
    unfolding literal
    constant-value y e h w c = rw (← part-data, sym e ∙ h) (computes-as (ap given w) c)

    pub constant-text : (y : Operand) {t : Bool} → t ≡ is_value b (part s from len) → t ≡ true → value_of y ≡ value b (part s from len) → SoundText (value_of y)
    constant-text y e h w = read-text y w (sym e ∙ h)

    pub constant-none : {t : Bool} {x : Evaluated} → t ≡ is_value b (part s from len) → t ≡ false → Computes x wrong_kind → Computes x (literal b (data_part s v m))
    unfolding literal
    constant-none e h c = rw (← part-data, sym e ∙ h) c

pub ruleset constant-laws = (from-inside, part-inside, constant-value, constant-text, constant-none)

-- ---- conditions

decides-as : (x : Evaluated) {k : std.Result Place Fault} {d : std.Result Bool Fault} → x.source ≡ k → d ≡ decision_of k (truth_of (value_of x.root)) → d ≡ condition_of x
unfolding condition_of
decides-as x e f = f ∙ ap (λ (k : std.Result Place Fault). decision_of k (truth_of (value_of x.root))) (sym e)

decided : (t : Option Bool) → ok_or t Fault.Wrong ≡ decision_by t
decided (Some p) = refl
decided None = refl

pub condition-given : (x : Evaluated) {p : Place} {t : Option Bool} {d : std.Result Bool Fault} → x.source ≡ Ok p → t ≡ truth_of (value_of x.root) → d ≡ ok_or t Fault.Wrong
    → d ≡ condition_of x
condition-given x {t = t} e f g = decides-as x e (g ∙ decided t ∙ ap decision_by f)

pub condition-missing : (x : Evaluated) → x.source ≡ Err Fault.Missing → Err Fault.Missing ≡ condition_of x
condition-missing x e = decides-as x e refl

pub condition-wrong : (x : Evaluated) → x.source ≡ Err Fault.Wrong → Err Fault.Wrong ≡ condition_of x
condition-wrong x e = decides-as x e refl

pub condition-outside : (x : Evaluated) {b : Bool} → x.source ≡ Err Fault.Outside → Some b ≡ truth_of (value_of x.root) → Err Fault.Outside ≡ condition_of x
condition-outside x e f = decides-as x e (ap without_truth f)

pub condition-no-bool : (x : Evaluated) → x.source ≡ Err Fault.Outside → None ≡ truth_of (value_of x.root) → Err Fault.Wrong ≡ condition_of x
condition-no-bool x e f = decides-as x e (ap without_truth f)

pub ruleset condition-laws = (condition-given, condition-missing, condition-wrong, condition-outside, condition-no-bool)
