-- What of a row names paths: the path or operands of an E row; a B row's own paths and expression. 01, E and B.
use Rattle.std.specs.Prelude.{List, ℕ}
use Rattle.network_rows.specs.declared.ExpressionRow.{ExpressionRow}
use Rattle.network_rows.specs.declared.BehaviourRow.{BehaviourRow}
use Rattle.network_rows.specs.Readers.{expression_row_of, behaviour_row_of}
use Rattle.check_roots.specs.declared.Operands.{Operands}
use Rattle.check_roots.specs.declared.Own.{Own}

-- E: "1 path a, 2 is path a present, 3 not, 4 negate, 5 add, 6 subtract, 7 less, 8 equal, 9 and. Operands a, b ..".
abbrev pub operands_in : ExpressionRow → Operands
operands_in (ExpressionRow.Constant basic a b) = Operands.Nothing
operands_in (ExpressionRow.ValueAt a) = Operands.Path a
operands_in (ExpressionRow.Presence a) = Operands.Path a
operands_in (ExpressionRow.Not a) = Operands.One a
operands_in (ExpressionRow.Negate a) = Operands.One a
operands_in (ExpressionRow.Add a b) = Operands.Two a b
operands_in (ExpressionRow.Subtract a b) = Operands.Two a b
operands_in (ExpressionRow.Less a b) = Operands.Two a b
operands_in (ExpressionRow.Equal a b) = Operands.Two a b
operands_in (ExpressionRow.And a b) = Operands.Two a b
operands_in ExpressionRow.Unknown = Operands.Nothing

unfoldable pub operands_of : List ℕ → ℕ → Operands
operands_of s r = operands_in (expression_row_of s r)

-- B: the paths and the expression of each kind of row.
abbrev pub own_in : BehaviourRow → Own
own_in BehaviourRow.Nil = Own.Nothing
own_in (BehaviourRow.OneWay a b) = Own.Path b
own_in (BehaviourRow.RequestResponse a b c d) = Own.Paths b c
own_in (BehaviourRow.Notification a b) = Own.Expression b
own_in (BehaviourRow.SolicitResponse a b c) = Own.Both b c
own_in (BehaviourRow.If a b c) = Own.Expression a
own_in (BehaviourRow.While a b) = Own.Expression a
own_in (BehaviourRow.Sequence a b) = Own.Nothing
own_in (BehaviourRow.Parallel a b) = Own.Nothing
own_in (BehaviourRow.Assign a b) = Own.Both b a
own_in (BehaviourRow.Choice a b) = Own.Nothing
own_in (BehaviourRow.Branch a b) = Own.Nothing
own_in BehaviourRow.Unknown = Own.Nothing

unfoldable pub own_of : List ℕ → ℕ → Own
own_of s r = own_in (behaviour_row_of s r)
