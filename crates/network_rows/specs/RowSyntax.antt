-- Network's syntax in terms of rows read by value, for code that reads a row and matches on it: what a row becomes, its operands,
-- children and sub-behaviours given by a function. RowSyntaxLaws says that this is what network's Decode says.
use Rattle.std.specs.Prelude.{ℕ, List, [], ◌∷◌}
use Rattle.scalar.specs.Basic.{void}
use Rattle.scalar.specs.Value.{value}
use Rattle.tree_forest.specs.Path.{Path, path}
use Rattle.network_syntax.specs.Syntax.{logical_not, negate, add, subtract, less, equal, logical_and, Expression, constant, value_at}
use Rattle.network_syntax.specs.Syntax.{presence, unary, binary, Behaviour, nil, one_way, request_response, notification, solicit_response}
use Rattle.network_syntax.specs.Syntax.{if_then_else, while_do, sequence, parallel, assign, choice, Optional, none, some}
use Rattle.network_syntax.specs.Rows.{Input, Output}
use Rattle.network.specs.Layout.{data_part}
use Rattle.network.specs.Decode.{until_zero, path_of, expression_of, operation_of, branches_from}
use Rattle.network_rows.specs.declared.ExpressionRow.{ExpressionRow}
use Rattle.network_rows.specs.declared.BehaviourRow.{BehaviourRow}
use Rattle.network_rows.specs.declared.InputRow.{InputRow}
use Rattle.network_rows.specs.declared.OutputRow.{OutputRow}

-- An E row, its operands as `operand` gives them.
unfoldable pub expression_with : List ℕ → (ℕ → Expression) → ExpressionRow → Expression
expression_with s operand (ExpressionRow.Constant basic v n) = constant (value basic (data_part s v n))
expression_with s operand (ExpressionRow.ValueAt p) = value_at (path_of s p)
expression_with s operand (ExpressionRow.Presence p) = presence (path_of s p)
expression_with s operand (ExpressionRow.Not a) = unary logical_not (operand a)
expression_with s operand (ExpressionRow.Negate a) = unary negate (operand a)
expression_with s operand (ExpressionRow.Add a b) = binary add (operand a) (operand b)
expression_with s operand (ExpressionRow.Subtract a b) = binary subtract (operand a) (operand b)
expression_with s operand (ExpressionRow.Less a b) = binary less (operand a) (operand b)
expression_with s operand (ExpressionRow.Equal a b) = binary equal (operand a) (operand b)
expression_with s operand (ExpressionRow.And a b) = binary logical_and (operand a) (operand b)
expression_with s operand ExpressionRow.Unknown = constant (value void [])

-- B row r, its sub-behaviours as `sub` gives them.
abbrev pub behaviour_with : List ℕ → (ℕ → Behaviour) → ℕ → BehaviourRow → Behaviour
behaviour_with s sub r BehaviourRow.Nil = nil r
behaviour_with s sub r (BehaviourRow.OneWay o x) = one_way r (operation_of s o) (path_of s x)
behaviour_with s sub r (BehaviourRow.RequestResponse o x y body) = request_response r (operation_of s o) (path_of s x) (path_of s y) (sub body)
behaviour_with s sub r (BehaviourRow.Notification o e) = notification r (operation_of s o) (expression_of s e)
behaviour_with s sub r (BehaviourRow.SolicitResponse o e x) = solicit_response r (operation_of s o) (expression_of s e) (path_of s x)
behaviour_with s sub r (BehaviourRow.If e a b) = if_then_else r (expression_of s e) (sub a) (sub b)
behaviour_with s sub r (BehaviourRow.While e a) = while_do r (expression_of s e) (sub a)
behaviour_with s sub r (BehaviourRow.Sequence a b) = sequence r (sub a) (sub b)
behaviour_with s sub r (BehaviourRow.Parallel a b) = parallel r (sub a) (sub b)
behaviour_with s sub r (BehaviourRow.Assign x e) = assign r (path_of s x) (expression_of s e)
behaviour_with s sub r (BehaviourRow.Choice first n) = choice r (branches_from s sub first n)
behaviour_with s sub r (BehaviourRow.Branch i a) = nil r
behaviour_with s sub r BehaviourRow.Unknown = nil r

-- B row r as an input, the body of a request-response as `sub` gives it.
abbrev pub input_with : List ℕ → (ℕ → Behaviour) → ℕ → InputRow → Optional Input
input_with s sub r InputRow.Nothing = none
input_with s sub r (InputRow.OneWay o x) = some (record { row = r; operation = operation_of s o; into = path_of s x; response = none })
input_with s sub r (InputRow.RequestResponse o x y body) = some (record {
  row = r;
  operation = operation_of s o;
  into = path_of s x;
  response = some (record { path = path_of s y; body = sub body });
})

-- B row r as an output.
abbrev pub output_with : List ℕ → ℕ → OutputRow → Optional Output
output_with s r OutputRow.Nothing = none
output_with s r (OutputRow.Notification o e) = some (record { row = r; operation = operation_of s o; message = expression_of s e; into = none })
output_with s r (OutputRow.SolicitResponse o e x) =
    some (record { row = r; operation = operation_of s o; message = expression_of s e; into = some (path_of s x) })

-- Four ids as a path.
unfoldable pub path_with : List ℕ → Path
path_with [] = path 0 []
path_with (i ∷ is) = path i (until_zero is)
