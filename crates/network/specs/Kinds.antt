-- The kinds of E and B rows, and what each kind's fields are: 01's items E and B as tables.
use Rattle.std.specs.Prelude.{ℕ, eqb}
use Rattle.basics.specs.Choice.{pick}
use Rattle.network.specs.declared.ExpressionKind.{ExpressionKind}
use Rattle.network.specs.declared.BehaviourKind.{BehaviourKind}
use Rattle.network.specs.declared.FieldSort.{FieldSort}
use Rattle.network.specs.declared.FieldSort.TheVariants.{Unruled, Unused, PathRow, EarlierRow, ExpressionRow, OperationRow, LaterRow, InputRow}
use Rattle.network.specs.declared.FieldSort.TheVariants.{BranchRun, BranchCount, ConstantPart}
use Rattle.network.specs.declared.Fields.{Fields}

-- 01, E: "Kinds: 0 constant .., 1 path a, 2 is path a present, 3 not, 4 negate, 5 add, 6 subtract, 7 less, 8 equal, 9 and."
unfoldable pub expression_kind : ℕ → ExpressionKind
expression_kind n =
    pick (eqb n 0) ExpressionKind.Constant
    (pick (eqb n 1) ExpressionKind.ValueAt
    (pick (eqb n 2) ExpressionKind.Presence
    (pick (eqb n 3) ExpressionKind.Not
    (pick (eqb n 4) ExpressionKind.Negate
    (pick (eqb n 5) ExpressionKind.Add
    (pick (eqb n 6) ExpressionKind.Subtract
    (pick (eqb n 7) ExpressionKind.Less
    (pick (eqb n 8) ExpressionKind.Equal
    (pick (eqb n 9) ExpressionKind.And ExpressionKind.Unknown)))))))))

-- 01, B: "0 nil; 1 one-way ..; 2 request-response ..; 3 notification ..; 4 solicit-response ..; 5 if ..; 6 while ..;
-- 7 sequence a, b; 8 parallel a, b; 9 assign ..; 10 choice ..; 11 branch".
unfoldable pub behaviour_kind : ℕ → BehaviourKind
behaviour_kind n =
    pick (eqb n 0) BehaviourKind.Nil
    (pick (eqb n 1) BehaviourKind.OneWay
    (pick (eqb n 2) BehaviourKind.RequestResponse
    (pick (eqb n 3) BehaviourKind.Notification
    (pick (eqb n 4) BehaviourKind.SolicitResponse
    (pick (eqb n 5) BehaviourKind.If
    (pick (eqb n 6) BehaviourKind.While
    (pick (eqb n 7) BehaviourKind.Sequence
    (pick (eqb n 8) BehaviourKind.Parallel
    (pick (eqb n 9) BehaviourKind.Assign
    (pick (eqb n 10) BehaviourKind.Choice
    (pick (eqb n 11) BehaviourKind.Branch BehaviourKind.Unknown)))))))))))

-- The sorts of fields: `Unruled` has no rule of its own, `Unused` is 0 ("Unused fields are 0"), `PathRow`, `ExpressionRow` and
-- `OperationRow` name a row of that section, `EarlierRow` an operand ("Operands a, b are earlier rows"), `LaterRow` a
-- sub-behaviour ("A sub-behaviour is a later row"), `InputRow` a branch's input, `BranchRun` and `BranchCount` a choice's
-- first row and count, `ConstantPart` a constant's start in D, whose length is the field after it.
abbrev pub fields : FieldSort → FieldSort → FieldSort → FieldSort → Fields
fields w x y z = record { a = w; b = x; c = y; d = z }

-- 01, E: what the fields a, b, c are; there is no d. A row of unknown kind has no fields to judge.
unfoldable pub expression_fields : ExpressionKind → Fields
expression_fields ExpressionKind.Constant = fields ConstantPart Unruled Unused Unruled
expression_fields ExpressionKind.ValueAt = fields PathRow Unused Unused Unruled
expression_fields ExpressionKind.Presence = fields PathRow Unused Unused Unruled
expression_fields ExpressionKind.Not = fields EarlierRow Unused Unused Unruled
expression_fields ExpressionKind.Negate = fields EarlierRow Unused Unused Unruled
expression_fields ExpressionKind.Add = fields EarlierRow EarlierRow Unused Unruled
expression_fields ExpressionKind.Subtract = fields EarlierRow EarlierRow Unused Unruled
expression_fields ExpressionKind.Less = fields EarlierRow EarlierRow Unused Unruled
expression_fields ExpressionKind.Equal = fields EarlierRow EarlierRow Unused Unruled
expression_fields ExpressionKind.And = fields EarlierRow EarlierRow Unused Unruled
expression_fields ExpressionKind.Unknown = fields Unruled Unruled Unruled Unruled

-- 01, B: what the fields a, b, c, d are. A row of unknown kind has no fields to judge, and uses nothing.
unfoldable pub behaviour_fields : BehaviourKind → Fields
behaviour_fields BehaviourKind.Nil = fields Unused Unused Unused Unused
behaviour_fields BehaviourKind.OneWay = fields OperationRow PathRow Unused Unused
behaviour_fields BehaviourKind.RequestResponse = fields OperationRow PathRow PathRow LaterRow
behaviour_fields BehaviourKind.Notification = fields OperationRow ExpressionRow Unused Unused
behaviour_fields BehaviourKind.SolicitResponse = fields OperationRow ExpressionRow PathRow Unused
behaviour_fields BehaviourKind.If = fields ExpressionRow LaterRow LaterRow Unused
behaviour_fields BehaviourKind.While = fields ExpressionRow LaterRow Unused Unused
behaviour_fields BehaviourKind.Sequence = fields LaterRow LaterRow Unused Unused
behaviour_fields BehaviourKind.Parallel = fields LaterRow LaterRow Unused Unused
behaviour_fields BehaviourKind.Assign = fields PathRow ExpressionRow Unused Unused
behaviour_fields BehaviourKind.Choice = fields BranchRun BranchCount Unused Unused
behaviour_fields BehaviourKind.Branch = fields InputRow LaterRow Unused Unused
behaviour_fields BehaviourKind.Unknown = fields Unruled Unruled Unruled Unruled
