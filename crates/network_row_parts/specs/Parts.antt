-- E rows by their parts, and the sub-behaviours of B rows. 01, E: "0 constant (basic; a start in D, b length), 1 path a, 2 is path a present,
-- 3 not, 4 negate, 5 add, 6 subtract, 7 less, 8 equal, 9 and. Operands a, b are earlier rows." A row with an operand that is no earlier row is
-- broken.
use Rattle.std.specs.Prelude.{List, ◌&&◌, ℕ, ltb}
use Rattle.basics.specs.Choice.{pick}
use Rattle.network_syntax.specs.Syntax.{Unary, logical_not, negate, Binary, add, subtract, less, equal, logical_and}
use Rattle.network_rows.specs.declared.ExpressionRow.{ExpressionRow}
use Rattle.network_rows.specs.declared.BehaviourRow.{BehaviourRow}
use Rattle.network_rows.specs.Readers.{expression_row_of, behaviour_row_of}
use Rattle.network_row_parts.specs.declared.UnaryOperator.{UnaryOperator}
use Rattle.network_row_parts.specs.declared.BinaryOperator.{BinaryOperator}
use Rattle.network_row_parts.specs.declared.Part.{Part}
use Rattle.network_row_parts.specs.declared.Subs.{Subs}

-- The operators of the syntax.
abbrev pub unary_of : UnaryOperator → Unary
unary_of UnaryOperator.Not = logical_not
unary_of UnaryOperator.Negate = negate

abbrev pub binary_of : BinaryOperator → Binary
binary_of BinaryOperator.Add = add
binary_of BinaryOperator.Subtract = subtract
binary_of BinaryOperator.Less = less
binary_of BinaryOperator.Equal = equal
binary_of BinaryOperator.And = logical_and

-- An operator in row r: "Operands a, b are earlier rows."
unfoldable pub unary_part : UnaryOperator → ℕ → ℕ → Part
unary_part o a r = pick (ltb a r) (Part.Unary o a) Part.Broken

unfoldable pub binary_part : BinaryOperator → ℕ → ℕ → ℕ → Part
binary_part o a b r = pick (ltb a r && ltb b r) (Part.Binary o a b) Part.Broken

abbrev pub part_as : ℕ → ExpressionRow → Part
part_as r (ExpressionRow.Constant basic v n) = Part.Constant basic v n
part_as r (ExpressionRow.ValueAt a) = Part.ValueAt a
part_as r (ExpressionRow.Presence a) = Part.Presence a
part_as r (ExpressionRow.Not a) = unary_part UnaryOperator.Not a r
part_as r (ExpressionRow.Negate a) = unary_part UnaryOperator.Negate a r
part_as r (ExpressionRow.Add a b) = binary_part BinaryOperator.Add a b r
part_as r (ExpressionRow.Subtract a b) = binary_part BinaryOperator.Subtract a b r
part_as r (ExpressionRow.Less a b) = binary_part BinaryOperator.Less a b r
part_as r (ExpressionRow.Equal a b) = binary_part BinaryOperator.Equal a b r
part_as r (ExpressionRow.And a b) = binary_part BinaryOperator.And a b r
part_as r ExpressionRow.Unknown = Part.Broken

unfoldable pub expression_part : List ℕ → ℕ → Part
expression_part s r = part_as r (expression_row_of s r)

-- B: the sub-behaviours of each kind of row; a choice's branches.
abbrev pub subs_in : BehaviourRow → Subs
subs_in BehaviourRow.Nil = Subs.Nothing
subs_in (BehaviourRow.OneWay a b) = Subs.Nothing
subs_in (BehaviourRow.RequestResponse a b c d) = Subs.One d
subs_in (BehaviourRow.Notification a b) = Subs.Nothing
subs_in (BehaviourRow.SolicitResponse a b c) = Subs.Nothing
subs_in (BehaviourRow.If a b c) = Subs.Two b c
subs_in (BehaviourRow.While a b) = Subs.One b
subs_in (BehaviourRow.Sequence a b) = Subs.Two a b
subs_in (BehaviourRow.Parallel a b) = Subs.Two a b
subs_in (BehaviourRow.Assign a b) = Subs.Nothing
subs_in (BehaviourRow.Choice a b) = Subs.Run a b
subs_in (BehaviourRow.Branch a b) = Subs.Nothing
subs_in BehaviourRow.Unknown = Subs.Nothing

unfoldable pub subs_of : List ℕ → ℕ → Subs
subs_of s r = subs_in (behaviour_row_of s r)
