-- Whole rows by value: what a reader of one row gives, over network's field definitions. 01, Network file, the items P, E and B. A row
-- out of range reads as what stands there.
use Rattle.std.specs.Prelude.{ℕ, ◌+◌, ◌≡◌, List, [], ◌∷◌}
use Rattle.wire.specs.Wire.{byte_at, u16_at}
use Rattle.network.specs.declared.ExpressionKind.{ExpressionKind}
use Rattle.network.specs.declared.BehaviourKind.{BehaviourKind}
use Rattle.network.specs.Layout.{path_at, expression_at, behaviour_at}
use Rattle.network.specs.Rows.{field_a, field_b, field_c, field_d, expression_kind_at, kind_at}
use Rattle.network_rows.specs.declared.ExpressionRow.{ExpressionRow}
use Rattle.network_rows.specs.declared.BehaviourRow.{BehaviourRow}
use Rattle.network_rows.specs.declared.InputRow.{InputRow}
use Rattle.network_rows.specs.declared.OutputRow.{OutputRow}
use Rattle.network_rows.specs.declared.BranchRow.{BranchRow}

-- P: "four u16 ids".
unfoldable pub path_ids : List ℕ → ℕ → List ℕ
path_ids s r = u16_at s (path_at s r) ∷ u16_at s (path_at s r + 2) ∷ u16_at s (path_at s r + 4) ∷ u16_at s (path_at s r + 6) ∷ []

-- E: "0 constant (basic; a start in D, b length), 1 path a, 2 is path a present, 3 not, 4 negate, 5 add, 6 subtract, 7 less, 8 equal,
-- 9 and. Operands a, b are earlier rows."
unfoldable pub expression_row_as : ExpressionKind → ℕ → ℕ → ℕ → ExpressionRow
expression_row_as ExpressionKind.Constant basic a b = ExpressionRow.Constant basic a b
expression_row_as ExpressionKind.ValueAt basic a b = ExpressionRow.ValueAt a
expression_row_as ExpressionKind.Presence basic a b = ExpressionRow.Presence a
expression_row_as ExpressionKind.Not basic a b = ExpressionRow.Not a
expression_row_as ExpressionKind.Negate basic a b = ExpressionRow.Negate a
expression_row_as ExpressionKind.Add basic a b = ExpressionRow.Add a b
expression_row_as ExpressionKind.Subtract basic a b = ExpressionRow.Subtract a b
expression_row_as ExpressionKind.Less basic a b = ExpressionRow.Less a b
expression_row_as ExpressionKind.Equal basic a b = ExpressionRow.Equal a b
expression_row_as ExpressionKind.And basic a b = ExpressionRow.And a b
expression_row_as ExpressionKind.Unknown basic a b = ExpressionRow.Unknown

unfoldable pub expression_row_of : List ℕ → ℕ → ExpressionRow
expression_row_of s r =
    expression_row_as (expression_kind_at s r) (byte_at s (expression_at s r + 1)) (field_a s (expression_at s r)) (field_b s (expression_at s r))

-- B: "0 nil; 1 one-way (operation a, path b); 2 request-response (operation a, into b, reply path c, body d); 3 notification (operation
-- a, expression b); 4 solicit-response (a, b, into c); 5 if (expression a, then b, else c); 6 while (a, body b); 7 sequence a, b;
-- 8 parallel a, b; 9 assign (path a, expression b); 10 choice (first row a, count b ..); 11 branch (input row a .., then b ..)".
unfoldable pub behaviour_row_as : BehaviourKind → ℕ → ℕ → ℕ → ℕ → BehaviourRow
behaviour_row_as BehaviourKind.Nil a b c d = BehaviourRow.Nil
behaviour_row_as BehaviourKind.OneWay a b c d = BehaviourRow.OneWay a b
behaviour_row_as BehaviourKind.RequestResponse a b c d = BehaviourRow.RequestResponse a b c d
behaviour_row_as BehaviourKind.Notification a b c d = BehaviourRow.Notification a b
behaviour_row_as BehaviourKind.SolicitResponse a b c d = BehaviourRow.SolicitResponse a b c
behaviour_row_as BehaviourKind.If a b c d = BehaviourRow.If a b c
behaviour_row_as BehaviourKind.While a b c d = BehaviourRow.While a b
behaviour_row_as BehaviourKind.Sequence a b c d = BehaviourRow.Sequence a b
behaviour_row_as BehaviourKind.Parallel a b c d = BehaviourRow.Parallel a b
behaviour_row_as BehaviourKind.Assign a b c d = BehaviourRow.Assign a b
behaviour_row_as BehaviourKind.Choice a b c d = BehaviourRow.Choice a b
behaviour_row_as BehaviourKind.Branch a b c d = BehaviourRow.Branch a b
behaviour_row_as BehaviourKind.Unknown a b c d = BehaviourRow.Unknown

unfoldable pub behaviour_row_of : List ℕ → ℕ → BehaviourRow
behaviour_row_of s r =
    behaviour_row_as (kind_at s r) (field_a s (behaviour_at s r)) (field_b s (behaviour_at s r)) (field_c s (behaviour_at s r)) (field_d s (behaviour_at s r))

-- A row by what it does: it receives, it sends, or neither. "1 one-way (operation a, path b); 2 request-response (operation a, into b, reply path c,
-- body d); 3 notification (operation a, expression b); 4 solicit-response (a, b, into c)".
pub data RowView : Type 0 where
  receives : InputRow → RowView
  sends : OutputRow → RowView
  neither : RowView

unfoldable pub view_in : BehaviourRow → RowView
view_in BehaviourRow.Nil = neither
view_in (BehaviourRow.OneWay o p) = receives (InputRow.OneWay o p)
view_in (BehaviourRow.RequestResponse o p c d) = receives (InputRow.RequestResponse o p c d)
view_in (BehaviourRow.Notification o x) = sends (OutputRow.Notification o x)
view_in (BehaviourRow.SolicitResponse o x p) = sends (OutputRow.SolicitResponse o x p)
view_in (BehaviourRow.If x a b) = neither
view_in (BehaviourRow.While x b) = neither
view_in (BehaviourRow.Sequence a b) = neither
view_in (BehaviourRow.Parallel a b) = neither
view_in (BehaviourRow.Assign p x) = neither
view_in (BehaviourRow.Choice first n) = neither
view_in (BehaviourRow.Branch a b) = neither
view_in BehaviourRow.Unknown = neither

abbrev pub input_row_in : RowView → InputRow
input_row_in (receives i) = i
input_row_in (sends u) = InputRow.Nothing
input_row_in neither = InputRow.Nothing

abbrev pub output_row_in : RowView → OutputRow
output_row_in (receives i) = OutputRow.Nothing
output_row_in (sends u) = u
output_row_in neither = OutputRow.Nothing

unfoldable pub input_row_of : List ℕ → ℕ → InputRow
input_row_of s r = input_row_in (view_in (behaviour_row_of s r))

unfoldable pub output_row_of : List ℕ → ℕ → OutputRow
output_row_of s r = output_row_in (view_in (behaviour_row_of s r))

-- "11 branch (input row a, of kind 1 or 2, then b, as in a sequence)", of the row whose first byte is `at`.
pub record BranchAt (s : List ℕ) (at : ℕ) (x : BranchRow) : Type 0 where
  pub input : x.input ≡ field_a s at
  pub follow : x.follow ≡ field_b s at
