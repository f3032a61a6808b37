-- The operators on values follow 01's rule over basic types (8): where the rule gives a type, the operator gives a value of it or is beyond
-- it; where the rule refuses, an operand is of the wrong kind.
use Rattle.std.specs.Prelude.{◌≡◌, refl, Bool, true, false, not, ◌&&◌, ℕ, eqb}
use Rattle.std.proofs.Common.{sym, ap, ◌∙◌, eq-eqb, eqb-true}
use Rattle.basics.specs.TestLaws.{agree}
use Rattle.refusal.specs.declared.Refusal.TheVariants.{OperandType}
use Rattle.scalar.specs.Basic.{bool, void}
use Rattle.scalar.specs.Value.{Value, basic_of}
use Rattle.scalar.specs.Operator.{Answer, wrong, outside, gives, is_number, not_of, negate_of, add_of, subtract_of, less_of, equal_of, and_of}
use Rattle.scalar.specs.OperatorLaws.{OfBasic, Gives, not_gives, not-wrong, negate-gives, negate-wrong, add-gives, add-wrong, subtract-gives, subtract-wrong}
use Rattle.scalar.specs.OperatorLaws.{less-gives, less-wrong, equal-gives, equal-wrong, and-gives, and-wrong}
use Rattle.network_syntax.specs.Syntax.{MessageType, Unary, logical_not, negate, Binary, add, subtract, less, equal, logical_and}
use Rattle.check_subtyping.specs.Subtype.{root_basic}
use Rattle.check_typing.specs.Result.{Attempt, fails, yields, demand}
use Rattle.check_typing.specs.Environment.{basic_leaf}
use Rattle.check_typing.specs.ExpressionTyping.{unary_type, binary_type}
use Rattle.move_rules.specs.Evaluation.{Evaluation, missing, wrong_kind, beyond, given, answered, apply_unary, apply_binary, by_rule}

-- A value of the type t, which is a basic type alone, or beyond it.
abbrev pub OfType : MessageType → Evaluation Value → Type 0
OfType t missing = ⊥
OfType t wrong_kind = ⊥
OfType t (beyond b) = b ≡ root_basic t
OfType t (given v) = OfBasic (root_basic t) v × (basic_leaf (root_basic t) ≡ t)

abbrev pub FollowsRule : Attempt MessageType → Evaluation Value → Type 0
FollowsRule (fails why) x = x ≡ wrong_kind
FollowsRule (yields t) x = OfType t x

of-basic : (b : ℕ) (a : Answer) → Gives b a → OfType (basic_leaf b) (answered a)
of-basic b wrong g = g
of-basic b (outside c) g = g
of-basic b (gives v) g = (g, refl)

-- A rule that is a test and a basic type.
follows : (test : Bool) (b : ℕ) (a : Answer) → (test ≡ true → Gives b a) → (test ≡ false → a ≡ wrong)
    → FollowsRule (demand test OperandType (yields (basic_leaf b))) (answered a)
follows true b a f g = of-basic b a (f refl)
follows false b a f g = ap answered (g refl)

both-bool : (b c : ℕ) → (eqb b bool && eqb c bool) ≡ (eqb b bool && eqb b c)
both-bool b c = go (eqb b bool) refl
  where
    go : (p : Bool) → eqb b bool ≡ p → (p && eqb c bool) ≡ (p && eqb b c)
    go true e = agree (eqb c bool) (eqb b c)
        (λ f. eq-eqb b c (eqb-true b bool e ∙ sym (eqb-true c bool f)))
        (λ f. eq-eqb c bool (sym (eqb-true b c f) ∙ eqb-true b bool e))
    go false e = refl

pub unary-follows : (o : Unary) (v : Value) → FollowsRule (unary_type o (basic_of v)) (apply_unary o v)
unary-follows logical_not v = follows (eqb (basic_of v) bool) bool (not_of v) (not_gives v) (not-wrong v)
unary-follows negate v = follows (is_number (basic_of v)) (basic_of v) (negate_of v) (negate-gives v) (negate-wrong v)

pub binary-follows : (o : Binary) (v w : Value) → FollowsRule (binary_type o (basic_of v) (basic_of w)) (apply_binary o v w)
binary-follows add v w = follows (is_number (basic_of v) && eqb (basic_of v) (basic_of w)) (basic_of v) (add_of v w) (add-gives v w) (add-wrong v w)
binary-follows subtract v w =
    follows (is_number (basic_of v) && eqb (basic_of v) (basic_of w)) (basic_of v) (subtract_of v w) (subtract-gives v w) (subtract-wrong v w)
binary-follows less v w = follows (is_number (basic_of v) && eqb (basic_of v) (basic_of w)) bool (less_of v w) (less-gives v w) (less-wrong v w)
binary-follows equal v w = follows (not (eqb (basic_of v) void) && eqb (basic_of v) (basic_of w)) bool (equal_of v w) (equal-gives v w) (equal-wrong v w)
binary-follows logical_and v w =
    follows (eqb (basic_of v) bool && eqb (basic_of w) bool) bool (and_of v w)
    (λ e. and-gives v w (sym (both-bool (basic_of v) (basic_of w)) ∙ e)) (λ e. and-wrong v w (sym (both-bool (basic_of v) (basic_of w)) ∙ e))

-- ---- what an operator gives, without its value, is what the rule says

abbrev pub without_value : Evaluation Value → Evaluation Value
without_value missing = missing
without_value wrong_kind = wrong_kind
without_value (beyond b) = beyond b
without_value (given v) = beyond (basic_of v)

rule-says : (r : Attempt MessageType) (x : Evaluation Value) → FollowsRule r x → without_value x ≡ by_rule r
rule-says (fails why) x h = ap without_value h
rule-says (yields t) missing h = absurd h
rule-says (yields t) wrong_kind h = absurd h
rule-says (yields t) (beyond b) h = ap beyond h
rule-says (yields t) (given v) h = ap beyond h.0.sound.basic

pub unary-rule : (o : Unary) (v : Value) → without_value (apply_unary o v) ≡ by_rule (unary_type o (basic_of v))
unary-rule o v = rule-says (unary_type o (basic_of v)) (apply_unary o v) (unary-follows o v)

pub binary-rule : (o : Binary) (v w : Value) → without_value (apply_binary o v w) ≡ by_rule (binary_type o (basic_of v) (basic_of w))
binary-rule o v w = rule-says (binary_type o (basic_of v) (basic_of w)) (apply_binary o v w) (binary-follows o v w)
