-- What the walks over written-out types and expressions give: nodes left or too large; the levels of a row, worked out from its
-- operands' levels. 01: "Every T row written out has at most 16 nodes and 4 levels, every E row 8 levels; a row alone is one".
use Rattle.std.specs.Prelude.{ℕ, ◌+◌, ◌-◌, ◌≤◌, ◌≡◌, List, Bool, true, false, ◌&&◌, leb, ltb, get_or}
use Rattle.basics.specs.Choice.{pick}
use Rattle.network.specs.declared.ExpressionKind.{ExpressionKind}
use Rattle.network.specs.Layout.{expression_count, expression_at}
use Rattle.network.specs.Rows.{field_a, field_b, expression_kind_at, expression_rows}
use Rattle.network.specs.Sizes.{rows_sum, rows_all, levels_within, nodes_to}
use Rattle.std.specs.Prelude.{Option, Some, None}

-- So many nodes taken from those left.
abbrev pub spent_by : Bool → ℕ → ℕ → Option ℕ
spent_by within taken left = pick (within && leb taken left) (Some (left - taken)) None

-- What the n rows from `first` on leave, written out to d levels: too large if a row has more levels, or they all have more nodes.
unfoldable pub spent : List ℕ → ℕ → ℕ → ℕ → ℕ → Option ℕ
spent s d first n left = spent_by (rows_all (levels_within s d) first n) (rows_sum (nodes_to s d) first n) left

abbrev pub is_left : Option ℕ → Bool
is_left (Some n) = true
is_left None = false

unfoldable pub larger : ℕ → ℕ → ℕ
larger a b = pick (ltb a b) b a

-- One level more than the larger, 9 for all above 8.
unfoldable pub level_above : ℕ → ℕ → ℕ
level_above a b = pick (ltb (larger a b) 8) (larger a b + 1) 9

-- The levels of a row of a kind over operands of a and b levels.
unfoldable pub level_by : ExpressionKind → ℕ → ℕ → ℕ
level_by ExpressionKind.Constant a b = 1
level_by ExpressionKind.ValueAt a b = 1
level_by ExpressionKind.Presence a b = 1
level_by ExpressionKind.Not a b = level_above a a
level_by ExpressionKind.Negate a b = level_above a a
level_by ExpressionKind.Add a b = level_above a b
level_by ExpressionKind.Subtract a b = level_above a b
level_by ExpressionKind.Less a b = level_above a b
level_by ExpressionKind.Equal a b = level_above a b
level_by ExpressionKind.And a b = level_above a b
level_by ExpressionKind.Unknown a b = 1

-- The levels of E row a in a list of 256; 0 past them.
unfoldable pub level_at : List ℕ → ℕ → ℕ
level_at levels a = pick (ltb a 256) (get_or levels a 0) 0

-- The levels of E row r, with those of the rows before it in a list.
unfoldable pub row_level : List ℕ → List ℕ → ℕ → ℕ
row_level s levels r =
    level_by (expression_kind_at s r) (level_at levels (field_a s (expression_at s r))) (level_at levels (field_b s (expression_at s r)))

-- A file that 3 and 4 leave: few enough expressions, whose operands are earlier rows.
pub record Operands (s : List ℕ) : Type 0 where
  pub few : expression_count s ≤ 256
  pub kept : expression_rows s ≡ None
