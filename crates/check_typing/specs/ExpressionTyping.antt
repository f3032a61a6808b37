-- The type of an expression in Γ, or 7 or 8. 01, Typing: "A path expression has the tree there and must stand firm; as an
-- operand its root value counts. Presence needs a path in Γ and gives bool. Not, and: bool; both operands are worked out.
-- Negate, add, subtract, less: int, long or double, both alike. Equal: alike, not void".
-- Order: "operands a before b, the expression's rule". Less, equal, presence, not and and give bool; negate, add and
-- subtract the operands' type.
use Rattle.std.specs.Prelude.{not, ◌&&◌, ℕ, eqb}
use Rattle.refusal.specs.declared.Refusal.TheVariants.{PathNotFirm, OperandType}
use Rattle.scalar.specs.Basic.{bool, void}
use Rattle.scalar.specs.Value.{basic_of}
use Rattle.scalar.specs.Operator.{is_number}
use Rattle.network_syntax.specs.Syntax.{Types, MessageType, Unary, logical_not, negate, Binary, add, subtract, less, equal, logical_and, Expression}
use Rattle.network_syntax.specs.Syntax.{constant, value_at, presence, unary, binary}
use Rattle.check_subtyping.specs.Subtype.{root_basic}
use Rattle.check_typing.specs.Result.{Attempt, yields, demand, and_then}
use Rattle.check_typing.specs.Environment.{is_in, read_firm, basic_leaf}

-- An operator's rule over its operands' basic types; 8: "An operand or condition has a wrong basic type."
abbrev pub unary_type : Unary → ℕ → Attempt MessageType
unary_type logical_not b = demand (eqb b bool) OperandType (yields (basic_leaf bool))
unary_type negate b = demand (is_number b) OperandType (yields (basic_leaf b))

abbrev pub binary_type : Binary → ℕ → ℕ → Attempt MessageType
binary_type add b c = demand (is_number b && eqb b c) OperandType (yields (basic_leaf b))
binary_type subtract b c = demand (is_number b && eqb b c) OperandType (yields (basic_leaf b))
binary_type less b c = demand (is_number b && eqb b c) OperandType (yields (basic_leaf bool))
binary_type equal b c = demand (not (eqb b void) && eqb b c) OperandType (yields (basic_leaf bool))
binary_type logical_and b c = demand (eqb b bool && eqb c bool) OperandType (yields (basic_leaf bool))

unfoldable pub expression_type : Types → Expression → Attempt MessageType
expression_type Γ (constant v) = yields (basic_leaf (basic_of v))
expression_type Γ (value_at x) = read_firm x Γ
expression_type Γ (presence x) = demand (is_in x Γ) PathNotFirm (yields (basic_leaf bool))
expression_type Γ (unary o e) = and_then (expression_type Γ e) (λ t. unary_type o (root_basic t))
expression_type Γ (binary o a b) =
    and_then (expression_type Γ a) (λ t. and_then (expression_type Γ b) (λ u. binary_type o (root_basic t) (root_basic u)))
