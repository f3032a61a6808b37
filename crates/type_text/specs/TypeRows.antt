-- The T rows of declared types. 02, Wish 1: "Rows go declaration by declaration, each tree level by level"; 01, T: "id u16 .., cardinality u8 ..,
-- basic u8 .., first child u16, child count u16".
use Rattle.std.specs.Prelude.{List, [], ◌∷◌, ◌++◌, Bool, true, false, ◌||◌, ℕ, zero, suc, ◌+◌, eqb, ltb}
use Rattle.basics.specs.Choice.{pick}
use Rattle.wire.specs.Wire.{u16_bytes}
use Rattle.tree.specs.Encode.{root_count}
use Rattle.tree_forest.specs.Limits.{message_nodes_below, message_levels_below}
use Rattle.tree_forest.specs.Forest.{end, node, tree, nodes, levels}
use Rattle.network_syntax.specs.Syntax.{Mark, mark, Types, MessageType}

-- A node of a type: its id, its mark and how many children it has.
pub data TypeNode : Type 0 where
  type_node : ℕ → Mark → ℕ → TypeNode

-- The nodes of the d-th level, the first being 0.
unfoldable pub level_of : ℕ → Types → List TypeNode
level_of d end = []
level_of zero (node i a k r) = type_node i a (root_count k) ∷ level_of zero r
level_of (suc d) (node i a k r) = level_of d k ++ level_of (suc d) r

-- The nodes of n levels from the d-th on.
unfoldable pub levels_from : ℕ → ℕ → Types → List TypeNode
levels_from zero d f = []
levels_from (suc n) d f = level_of d f ++ levels_from n (suc d) f

-- "each tree level by level"; the root's id is 0.
unfoldable pub by_levels : MessageType → List TypeNode
by_levels (tree a k) = type_node 0 a (root_count k) ∷ levels_from (levels k) 0 k

-- The bytes of rows; `next` is the row of the next child. A row without children has 0 as its first.
unfoldable pub row_bytes : ℕ → List TypeNode → List ℕ
row_bytes next [] = []
row_bytes next (type_node i (mark m b) n ∷ l) =
    (u16_bytes i ++ (pick m 1 0 ∷ b ∷ (u16_bytes (pick (eqb n 0) 0 next) ++ u16_bytes n))) ++ row_bytes (next + n) l

-- How many rows a type has: its nodes.
unfoldable pub rows_in : MessageType → ℕ
rows_in (tree a k) = suc (nodes k)

unfoldable pub row_count : List MessageType → ℕ
row_count [] = 0
row_count (t ∷ l) = rows_in t + row_count l

-- The rows of types from row r on, "declaration by declaration".
unfoldable pub type_rows_from : ℕ → List MessageType → List ℕ
type_rows_from r [] = []
type_rows_from r (t ∷ l) = row_bytes (r + 1) (by_levels t) ++ type_rows_from (r + rows_in t) l

-- 01, 5: "Every T row written out has at most 16 nodes and 4 levels".
unfoldable pub is_too_large : MessageType → Bool
is_too_large (tree a k) = ltb message_nodes_below (nodes k) || ltb message_levels_below (levels k)
