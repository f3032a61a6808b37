-- The code goes on with what evaluation answers as move_rules' definition does.
use Rattle.std.specs.Prelude.{◌≡◌, Bool, List, ℕ, eqb}
use Rattle.std.proofs.Math.Path.{refl}
use Rattle.std.proofs.Common.{sym, ◌∙◌, ap}
use Rattle.std.proofs.Math.Bool.{true, false}
use Rattle.tree_forest.specs.Forest.{Tree, tree}
use Rattle.refusal.specs.declared.Refusal.TheVariants.{Stuck}
use Rattle.scalar.specs.Basic.{bool}
use Rattle.scalar.specs.Value.{Value, value, basic_of}
use Rattle.wire.specs.Wire.{unsigned_of}
use Rattle.basics.specs.Choice.{pick}
use Rattle.scalar.specs.Scalar.{value_of, truth_of}
use Rattle.scalar.specs.declared.Operand.{Operand}
use Rattle.tree.specs.Encode.{payload}
use Rattle.move_rules.specs.Evaluation.{Evaluation, given}
use Rattle.move_rules.specs.Moves.{Result, require, out_of_range, on_evaluation, on_bool, on_truth, root_value}
use Rattle.move_evaluation.specs.declared.Evaluated.{Evaluated}
use Rattle.move_evaluation.specs.declared.Place.{Place}
use Rattle.move_evaluation.specs.declared.Fault.{Fault}
use Rattle.move_evaluation.specs.Evaluated.{SourceOf, StandsFor}
use Rattle.move_evaluation.specs.Condition.{if_given, decision_by, without_truth, decision_of, condition_of, on_condition}
use Rattle.std.specs.Prelude.{Some, None, Ok, Err}
use Rattle.std.specs.Prelude as std

on-root : (t : Tree Value) (g : ℕ → Result) (f : Value → Result) → on_evaluation (given t) g (λ u. f (root_value u)) ≡ f (payload t)
on-root (tree v k) g f = refl

-- What goes by the root value of what evaluation gives.
module _ (s : List ℕ) (x : Evaluated) (e : Evaluation (Tree Value)) (g : ℕ → Result) (f : Value → Result) where
  source-value : (k : std.Result Place Fault) (v : Operand) → SourceOf s k v e → on_evaluation e g (λ t. f (root_value t)) ≡ if_given k (g (basic_of (value_of v))) (f (value_of v))
  source-value (Ok (Place.At at)) v h =
      ap (λ (z : Evaluation (Tree Value)). on_evaluation z g (λ t. f (root_value t))) h.is ∙ on-root h.there g f ∙ ap f (sym h.value)
  source-value (Ok Place.Alone) v h = ap (λ (z : Evaluation (Tree Value)). on_evaluation z g (λ t. f (root_value t))) h
  source-value (Err Fault.Missing) v h = ap (λ (z : Evaluation (Tree Value)). on_evaluation z g (λ t. f (root_value t))) h
  source-value (Err Fault.Wrong) v h = ap (λ (z : Evaluation (Tree Value)). on_evaluation z g (λ t. f (root_value t))) h
  source-value (Err Fault.Outside) v h = ap (λ (z : Evaluation (Tree Value)). on_evaluation z g (λ t. f (root_value t))) h

  pub on_value : StandsFor s x e
      → on_evaluation e g (λ t. f (root_value t)) ≡ if_given x.source (g (basic_of (value_of x.root))) (f (value_of x.root))
  on_value h = source-value x.source x.root h

module _ (f : Bool → Result) where
  on-truth : (v : Value) → on_bool v f ≡ on_condition (decision_by (truth_of v)) f
  unfolding truth_of
  on-truth (value b v) = go (eqb b bool) (eqb (unsigned_of v) 1)
    where
      go : (p q : Bool) → require p Stuck (f q) ≡ on_condition (decision_by (pick p (Some q) None)) f
      go true q = refl
      go false q = refl

  outside-truth : (v : Value) → require (eqb (basic_of v) bool) Stuck out_of_range ≡ on_condition (without_truth (truth_of v)) f
  unfolding truth_of
  outside-truth (value b v) = go (eqb b bool) (eqb (unsigned_of v) 1)
    where
      go : (p q : Bool) → require p Stuck out_of_range ≡ on_condition (without_truth (pick p (Some q) None)) f
      go true q = refl
      go false q = refl

  given-condition : (k : std.Result Place Fault) (v : Value)
      → if_given k (require (eqb (basic_of v) bool) Stuck out_of_range) (on_bool v f) ≡ on_condition (decision_of k (truth_of v)) f
  given-condition (Ok p) v = on-truth v
  given-condition (Err Fault.Missing) v = refl
  given-condition (Err Fault.Wrong) v = refl
  given-condition (Err Fault.Outside) v = outside-truth v

  pub on-condition : (s : List ℕ) (x : Evaluated) (e : Evaluation (Tree Value)) → StandsFor s x e → on_truth e f ≡ on_condition (condition_of x) f
  unfolding condition_of
  on-condition s x e h =
      on_value s x e (λ b. require (eqb b bool) Stuck out_of_range) (λ v. on_bool v f) h ∙ given-condition x.source (value_of x.root)
