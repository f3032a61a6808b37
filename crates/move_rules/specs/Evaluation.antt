-- The value of an expression in a session's tree. 01, Typing and Moves: "A path expression has the tree there ..; as an operand its
-- root value counts". 02: "Both operands are always worked out." What evaluation answers is its own; Moves' `on_evaluation` turns it into a
-- refusal.
use Rattle.std.specs.Prelude.{ℕ}
use Rattle.tree_forest.specs.Forest.{is_present}
use Rattle.tree_forest.specs.Forest.{Forest, end, Tree, tree, Lookup, absent, present}
use Rattle.tree_forest.specs.Path.{read}
use Rattle.scalar.specs.Value.{Value, basic_of}
use Rattle.scalar.specs.Operator.{Answer, wrong, outside, gives, of_bool, not_of, negate_of, add_of, subtract_of, less_of, equal_of, and_of}
use Rattle.tree.specs.Encode.{payload}
use Rattle.check_subtyping.specs.Subtype.{root_basic}
use Rattle.check_typing.specs.Result.{Attempt, fails, yields}
use Rattle.check_typing.specs.ExpressionTyping.{unary_type, binary_type}
use Rattle.network_syntax.specs.Syntax.{MessageType, Unary, logical_not, negate, Binary, add, subtract, less, equal}
use Rattle.network_syntax.specs.Syntax.{logical_and, Expression, constant, value_at, presence, unary, binary}

-- What evaluation answers. 18: "A value read is missing, an operand .. is of the wrong kind". 22: "the exact result is outside its width",
-- of which only the basic type is known.
pub data Evaluation (A : Type 0) : Type 0 where
  missing wrong_kind : Evaluation A
  beyond : ℕ → Evaluation A
  given : A → Evaluation A

-- What follows of something given; where nothing is given, the answer stays.
abbrev pub on_given : {A B : Type 0} → Evaluation A → (A → Evaluation B) → Evaluation B
on_given missing f = missing
on_given wrong_kind f = wrong_kind
on_given (beyond b) f = beyond b
on_given (given x) f = f x

-- A value alone.
abbrev pub leaf : Value → Tree Value
leaf v = tree v end

abbrev pub found : Lookup Value → Evaluation (Tree Value)
found absent = missing
found (present t) = given t

abbrev pub answered : Answer → Evaluation Value
answered wrong = wrong_kind
answered (outside b) = beyond b
answered (gives v) = given v

-- The operators of 01, E: "3 not, 4 negate, 5 add, 6 subtract, 7 less, 8 equal, 9 and".
abbrev pub apply_unary : Unary → Value → Evaluation Value
apply_unary logical_not v = answered (not_of v)
apply_unary negate v = answered (negate_of v)

abbrev pub apply_binary : Binary → Value → Value → Evaluation Value
apply_binary add v w = answered (add_of v w)
apply_binary subtract v w = answered (subtract_of v w)
apply_binary less v w = answered (less_of v w)
apply_binary equal v w = answered (equal_of v w)
apply_binary logical_and v w = answered (and_of v w)

-- What comes of an operand that is beyond: by 01's rule of the operator over basic types (8), an operand is of the wrong kind, or the result
-- is beyond its own basic type.
abbrev pub by_rule : Attempt MessageType → Evaluation Value
by_rule (fails why) = wrong_kind
by_rule (yields t) = beyond (root_basic t)

-- "as an operand its root value counts"; of one that is beyond, its basic type.
abbrev pub on_operand : Evaluation (Tree Value) → (ℕ → Evaluation Value) → (Value → Evaluation Value) → Evaluation Value
on_operand missing g f = missing
on_operand wrong_kind g f = wrong_kind
on_operand (beyond b) g f = g b
on_operand (given t) g f = f (payload t)

abbrev pub unary_result : Unary → Evaluation (Tree Value) → Evaluation Value
unary_result o x = on_operand x (λ b. by_rule (unary_type o b)) (apply_unary o)

abbrev pub binary_result : Binary → Evaluation (Tree Value) → Evaluation (Tree Value) → Evaluation Value
binary_result o x y =
    on_operand x
    (λ b. on_operand y (λ c. by_rule (binary_type o b c)) (λ w. by_rule (binary_type o b (basic_of w))))
    (λ v. on_operand y (λ c. by_rule (binary_type o (basic_of v) c)) (apply_binary o v))

abbrev pub as_leaf : Evaluation Value → Evaluation (Tree Value)
as_leaf x = on_given x (λ v. given (leaf v))

-- Both operands are worked out, then the operator is applied to their root values: what is missing or of the wrong kind comes first, of the
-- left operand, of the right one, then of the operator; then what is beyond. Presence is never missing.
unfoldable pub evaluate : Forest Value → Expression → Evaluation (Tree Value)
evaluate F (constant v) = given (leaf v)
evaluate F (value_at x) = found (read x F)
evaluate F (presence x) = given (leaf (of_bool (is_present (read x F))))
evaluate F (unary o e) = as_leaf (unary_result o (evaluate F e))
evaluate F (binary o a b) = as_leaf (binary_result o (evaluate F a) (evaluate F b))
