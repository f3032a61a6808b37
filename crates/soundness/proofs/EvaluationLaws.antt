-- An expression that has a type in Γ has a value of that type, or a result beyond its basic type, in every tree whose own type is ≤ Γ.
use Rattle.std.specs.Prelude.{◌≡◌, refl, Bool, ℕ}
use Rattle.std.proofs.Common.{sym, ap, ◌∙◌}
use Rattle.std.proofs.Math.Path.{subst}
use Rattle.tree_forest.specs.Forest.{Forest, Tree, tree, Lookup, present}
use Rattle.tree_forest.specs.Path.{read}
use Rattle.scalar.specs.Basic.{bool}
use Rattle.scalar.specs.Value.{Value, basic_of}
use Rattle.network_syntax.specs.Syntax.{mark, Types, MessageType, Unary, Binary, Expression, constant, value_at, presence, unary, binary}
use Rattle.check_subtyping.specs.Subtype.{root_basic, Subtype, Subtypes}
use Rattle.check_subtyping.specs.Own.{own_types, own_type}
use Rattle.check_subtyping.proofs.OwnLaws.{own-end}
use Rattle.tree.specs.Encode.{Proper}
use Rattle.refusal.specs.declared.Refusal.TheVariants.{PathNotFirm}
use Rattle.check_typing.specs.Result.{Attempt, yields, and_then}
use Rattle.check_typing.proofs.ResultLaws.{require-yields, and_then-yields, yields-inj}
use Rattle.check_typing.specs.Environment.{is_in, basic_leaf}
use Rattle.check_typing.proofs.EnvironmentLaws.{read_ok}
use Rattle.check_typing.specs.ExpressionTyping.{unary_type, binary_type, expression_type}
use Rattle.scalar.specs.Operator.{of_bool}
use Rattle.scalar.specs.OperatorLaws.{OfBasic}
use Rattle.scalar.specs.NumberLaws.{sound-bool, small-bit}
use Rattle.move_rules.specs.Evaluation.{Evaluation, missing, wrong_kind, beyond, given, found, apply_unary, apply_binary, by_rule, unary_result, binary_result}
use Rattle.move_rules.specs.Evaluation.{as_leaf, evaluate, leaf as leaf_value}
use Rattle.move_rules.specs.OperatorLaws.{OfType, FollowsRule, unary-follows, binary-follows}
use Rattle.tree_forest.specs.Forest.{is_present}
use Rattle.move_rules.specs.Moves.{root_value}
use Rattle.soundness.specs.GoodTrees.{GoodForest, GoodTree, GoodLookup, GoodExpression}
use Rattle.soundness.proofs.GoodTreesLaws.{read-good, good-end}

-- Evaluation gives a tree of which P holds, or is beyond a basic type of which B holds.
abbrev pub GivesBy : Evaluation (Tree Value) → (ℕ → Type 0) → (Tree Value → Type 0) → Type 0
GivesBy missing B P = ⊥
GivesBy wrong_kind B P = ⊥
GivesBy (beyond b) B P = B b
GivesBy (given y) B P = P y

pub gives-map : {B C : ℕ → Type 0} {P Q : Tree Value → Type 0} (r : Evaluation (Tree Value)) → GivesBy r B P → ((b : ℕ) → r ≡ beyond b → B b → C b)
    → ((y : Tree Value) → r ≡ given y → P y → Q y) → GivesBy r C Q
gives-map missing c f g = absurd c
gives-map wrong_kind c f g = absurd c
gives-map (beyond b) c f g = f b refl c
gives-map (given y) c f g = g y refl c

-- A tree of the type n, fit to be kept, or a result beyond its basic type.
abbrev pub GivesTree : Evaluation (Tree Value) → MessageType → Type 0
GivesTree r n = GivesBy r (λ b. b ≡ root_basic n) (λ y. Subtype (own_type y) n × GoodTree y)

leaf-typed : (v : Value) → Subtype (own_type (leaf_value v)) (basic_leaf (basic_of v))
leaf-typed v = record { basics = refl; children = own-end }

gives-leaf : (v : Value) (n : MessageType) → Proper v → basic_leaf (basic_of v) ≡ n → GivesTree (given (leaf_value v)) n
gives-leaf v n p e = (subst (Subtype (own_type (leaf_value v))) e (leaf-typed v), (p, good-end))

bool-proper : (c : Bool) → Proper (of_bool c)
bool-proper c = record { valid = (sound-bool c).rule; bytes = record { small = small-bit c } }

pub basic-of : (y : Tree Value) (n : MessageType) → Subtype (own_type y) n → basic_of (root_value y) ≡ root_basic n
basic-of (tree v k) (tree (mark m b) l) h = h.basics

pub root-proper : (y : Tree Value) → GoodTree y → Proper (root_value y)
root-proper (tree v k) g = g.0

pub present-good : (l : Lookup Value) (y : Tree Value) → GoodLookup l → l ≡ present y → GoodTree y
present-good l y g e = subst GoodLookup e g

-- What the operators give ------------------------------------------------------------------------------------------------------------------

basic-proper : (b : ℕ) (v : Value) → OfBasic b v → Proper v
basic-proper b v h = record { valid = rw h.sound.basic h.sound.rule; bytes = record { small = h.octets } }

typed-leaf : (x : Evaluation Value) (n : MessageType) → OfType n x → GivesTree (as_leaf x) n
typed-leaf missing n h = absurd h
typed-leaf wrong_kind n h = absurd h
typed-leaf (beyond b) n h = h
typed-leaf (given v) n h = gives-leaf v n (basic-proper (root_basic n) v h.0) (ap basic_leaf h.0.sound.basic ∙ h.1)

-- An operator that follows a rule which gives the type n, and the rule itself of an operand that is beyond.
follows-leaf : (a : Attempt MessageType) (x : Evaluation Value) (n : MessageType) → a ≡ yields n → FollowsRule a x → GivesTree (as_leaf x) n
follows-leaf a x n e h = typed-leaf x n (subst (λ (z : Attempt MessageType). FollowsRule z x) e h)

rule-leaf : (a : Attempt MessageType) (n : MessageType) → a ≡ yields n → GivesTree (as_leaf (by_rule a)) n
rule-leaf a n e = subst (λ (z : Attempt MessageType). GivesTree (as_leaf (by_rule z)) n) (sym e) refl

unary-gives : (o : Unary) (x : Evaluation (Tree Value)) (m n : MessageType) → GivesTree x m → unary_type o (root_basic m) ≡ yields n
    → GivesTree (as_leaf (unary_result o x)) n
unary-gives o missing m n h e = absurd h
unary-gives o wrong_kind m n h e = absurd h
unary-gives o (beyond b) m n h e = rule-leaf (unary_type o b) n (ap (unary_type o) h ∙ e)
unary-gives o (given (tree v k)) m n h e =
    follows-leaf (unary_type o (basic_of v)) (apply_unary o v) n (ap (unary_type o) (basic-of (tree v k) m h.0) ∙ e) (unary-follows o v)

module _ (o : Binary) (l m n : MessageType) (e : binary_type o (root_basic l) (root_basic m) ≡ yields n) where
  -- The rule at the operands' basic types.
  rule-at : (b c : ℕ) → b ≡ root_basic l → c ≡ root_basic m → binary_type o b c ≡ yields n
  rule-at b c f g = rw (f, g) e

  binary-gives : (x y : Evaluation (Tree Value)) → GivesTree x l → GivesTree y m → GivesTree (as_leaf (binary_result o x y)) n
  binary-gives missing y h k = absurd h
  binary-gives wrong_kind y h k = absurd h
  binary-gives (beyond b) missing h k = absurd k
  binary-gives (beyond b) wrong_kind h k = absurd k
  binary-gives (beyond b) (beyond c) h k = rule-leaf (binary_type o b c) n (rule-at b c h k)
  binary-gives (beyond b) (given (tree w j)) h k = rule-leaf (binary_type o b (basic_of w)) n (rule-at b (basic_of w) h (basic-of (tree w j) m k.0))
  binary-gives (given (tree v i)) missing h k = absurd k
  binary-gives (given (tree v i)) wrong_kind h k = absurd k
  binary-gives (given (tree v i)) (beyond c) h k = rule-leaf (binary_type o (basic_of v) c) n (rule-at (basic_of v) c (basic-of (tree v i) l h.0) k)
  binary-gives (given (tree v i)) (given (tree w j)) h k =
      follows-leaf (binary_type o (basic_of v) (basic_of w)) (apply_binary o v w) n
      (rule-at (basic_of v) (basic_of w) (basic-of (tree v i) l h.0) (basic-of (tree w j) m k.0)) (binary-follows o v w)

-- What expressions give ------------------------------------------------------------------------------------------------------------------

module _ (F : Forest Value) (Γ : Types) (g : GoodForest F) (h : Subtypes (own_types F) Γ) where
  pub progress : (e : Expression) → GoodExpression e → (n : MessageType) → expression_type Γ e ≡ yields n → GivesTree (evaluate F e) n
  unfolding expression_type evaluate GoodExpression
  progress (constant v) p n e = gives-leaf v n p (yields-inj e)
  progress (value_at x) p n e =
      let u = read_ok x F Γ n h e in
      subst (λ (l : Lookup Value). GivesTree (found l) n) (sym u.1) (u.2, present-good (read x F) u.0 (read-good x F g) u.1)
  progress (presence x) p n e =
      let u = require-yields (is_in x Γ) PathNotFirm (yields (basic_leaf bool)) e in
      gives-leaf (of_bool (is_present (read x F))) n (bool-proper (is_present (read x F))) (yields-inj u.1)
  progress (unary o a) p n e =
      let u = and_then-yields (expression_type Γ a) (λ t. unary_type o (root_basic t)) e in
      unary-gives o (evaluate F a) u.0 n (progress a p u.0 u.1) u.2
  progress (binary o a b) p n e =
      let u = and_then-yields (expression_type Γ a) (λ t. and_then (expression_type Γ b) (λ s. binary_type o (root_basic t) (root_basic s))) e in
      let u2 = and_then-yields (expression_type Γ b) (λ s. binary_type o (root_basic u.0) (root_basic s)) u.2 in
      binary-gives o u.0 u2.0 n u2.2 (evaluate F a) (evaluate F b) (progress a p.0 u.0 u.1) (progress b p.1 u2.0 u2.1)

-- Values of the basic type b are what the expression gives or is beyond, in every environment that the tree is of.
abbrev pub OfExpression : Forest Value → Expression → ℕ → Type 0
OfExpression F e b = (Γ : Types) (n : MessageType) → Subtypes (own_types F) Γ → expression_type Γ e ≡ yields n → b ≡ root_basic n

module _ (F : Forest Value) (g : GoodForest F) (e : Expression) (ge : GoodExpression e) where
  pub beyond-basic : (b : ℕ) → evaluate F e ≡ beyond b → OfExpression F e b
  beyond-basic b eb Γ n s t = subst (λ (r : Evaluation (Tree Value)). GivesTree r n) eb (progress F Γ g s e ge n t)

  pub given-basic : (y : Tree Value) → evaluate F e ≡ given y → OfExpression F e (basic_of (root_value y))
  given-basic y ey Γ n s t = basic-of y n (subst (λ (r : Evaluation (Tree Value)). GivesTree r n) ey (progress F Γ g s e ge n t)).0
