-- Refusal 5, sizes. 01: "Every T row written out has at most 16 nodes and 4 levels, every E row 8 levels; a row alone is one";
-- refusal 5: "A type or expression is too large (place: its row's first byte, lowest first)". Every row counts, used or not, and
-- a row that is a child in several runs counts each time. The recursion is on the limit, so it ends on any bytes.
use Rattle.std.specs.Prelude.{ℕ, zero, suc, ◌+◌, List, Bool, true, false, ◌&&◌, leb}
use Rattle.network.specs.declared.ExpressionKind.{ExpressionKind}
use Rattle.network.specs.Least.{least, rule, least_over}
use Rattle.network.specs.Layout.{type_count, expression_count, type_at, expression_at}
use Rattle.network.specs.Rows.{first_child, child_count, field_a, field_b, expression_kind_at}
use Rattle.std.specs.Prelude.{Option, None}

-- Sum and conjunction over the n rows from `first` on.
unfoldable pub rows_sum : (ℕ → ℕ) → ℕ → ℕ → ℕ
rows_sum f first zero = 0
rows_sum f first (suc n) = f first + rows_sum f (first + 1) n

unfoldable pub rows_all : (ℕ → Bool) → ℕ → ℕ → Bool
rows_all f first zero = true
rows_all f first (suc n) = f first && rows_all f (first + 1) n

-- T row r written out has at most d levels.
unfoldable pub levels_within : List ℕ → ℕ → ℕ → Bool
levels_within s zero r = false
levels_within s (suc d) r = rows_all (levels_within s d) (first_child s r) (child_count s r)

-- The nodes of T row r, written out to d levels.
unfoldable pub nodes_to : List ℕ → ℕ → ℕ → ℕ
nodes_to s zero r = 0
nodes_to s (suc d) r = suc (rows_sum (nodes_to s d) (first_child s r) (child_count s r))

abbrev pub type_levels : ℕ
type_levels = 4

abbrev pub type_nodes : ℕ
type_nodes = 16

unfoldable pub type_within : List ℕ → ℕ → Bool
type_within s r = levels_within s type_levels r && leb (nodes_to s type_levels r) type_nodes

-- How many operands an E row has: one for not and negate, two for the kinds after them.
abbrev pub operands_within : ExpressionKind → Bool → Bool → Bool
operands_within ExpressionKind.Constant a b = true
operands_within ExpressionKind.ValueAt a b = true
operands_within ExpressionKind.Presence a b = true
operands_within ExpressionKind.Not a b = a
operands_within ExpressionKind.Negate a b = a
operands_within ExpressionKind.Add a b = a && b
operands_within ExpressionKind.Subtract a b = a && b
operands_within ExpressionKind.Less a b = a && b
operands_within ExpressionKind.Equal a b = a && b
operands_within ExpressionKind.And a b = a && b
operands_within ExpressionKind.Unknown a b = true

-- E row r has at most d levels.
unfoldable pub depth_within : List ℕ → ℕ → ℕ → Bool
depth_within s zero r = false
depth_within s (suc d) r =
    operands_within (expression_kind_at s r)
    (depth_within s d (field_a s (expression_at s r))) (depth_within s d (field_b s (expression_at s r)))

abbrev pub expression_levels : ℕ
expression_levels = 8

unfoldable pub type_large : List ℕ → ℕ → Option ℕ
type_large s r = rule (type_within s r) (type_at s r) None

unfoldable pub expression_large : List ℕ → ℕ → Option ℕ
expression_large s r = rule (depth_within s expression_levels r) (expression_at s r) None

unfoldable pub type_sizes : List ℕ → Option ℕ
type_sizes s = least_over (type_count s) (type_large s)

unfoldable pub expression_sizes : List ℕ → Option ℕ
expression_sizes s = least_over (expression_count s) (expression_large s)

-- Refusal 5: the lowest place of a row that is too large.
unfoldable pub large : List ℕ → Option ℕ
large s = least (type_sizes s) (expression_sizes s)
