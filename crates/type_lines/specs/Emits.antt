-- What the functions of this crate write, each said for every type that stands there; on other bytes they end and say nothing.
-- 02, Wish 1: "each tree level by level".
use Rattle.std.specs.Prelude.{◌≡◌, List, ℕ, ◌+◌, ◌*◌, ◌≤◌, ◌<◌, length}
use Rattle.tree_forest.specs.Limits.{message_levels_below}
use Rattle.tree_forest.specs.Forest.{levels, map_tree}
use Rattle.network_syntax.specs.Syntax.{Types, MessageType}
use Rattle.tree.specs.Encode.{root_count}
use Rattle.tree.specs.Standing.{Row, Root}
use Rattle.tree_edit.specs.Wrote.{Wrote}
use Rattle.check_subtyping.specs.Subtype.{root_children}
use Rattle.check_types.specs.Image.{mark_value, image}
use Rattle.type_text.specs.TypeRows.{level_of, by_levels, row_bytes, rows_in}
use Rattle.type_rows.specs.LevelLaws.{children_in, width}
use Rattle.type_lines.specs.declared.Emitted.{Emitted}

-- The rows of the d-th level of the n types at `at` are written from w on; `next` is the row of the next child.
pub record LevelEmitted (s : List ℕ) (at n d : ℕ) (o o' : List ℕ) (w next : ℕ) (r : Emitted) : Type 0 where
  pub inside : r.at ≤ length o
  pub writes : (f : Types) → Row s at (image f) → root_count f ≡ n → w + 8 * width d f ≤ length o → next + children_in (level_of d f) < 65536 →
      Wrote o o' w r.at (8 * width d f) (row_bytes next (level_of d f)) × (r.next ≡ next + children_in (level_of d f))

-- The rows of the type at the start of s are written from row r on, up to e.
pub record TreeEmitted (s o o' : List ℕ) (r e : ℕ) : Type 0 where
  pub inside : e ≤ length o
  pub writes : (t : MessageType) → Root s 0 0 (map_tree mark_value t) → levels (root_children t) ≤ message_levels_below →
      8 * (r + rows_in t) ≤ length o → r + rows_in t ≤ 256 →
      Wrote o o' (8 * r) e (8 * rows_in t) (row_bytes (r + 1) (by_levels t))
