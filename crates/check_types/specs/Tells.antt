-- What the functions of this crate tell: T1 ≤ T2 between T rows and types that stand in bytes, and T rows written out. Each is said for
-- every file that none of 2 to 5 refuses and every tree that stands there; on other bytes the functions end and say nothing.
use Rattle.std.specs.Prelude.{◌≡◌, List, Bool, true, false, ◌&&◌, ℕ, ◌+◌, ◌*◌, ◌≤◌, ◌<◌, length, eqb}
use Rattle.tree_forest.specs.Forest.{Forest, end, Tree, tree, nodes}
use Rattle.scalar.specs.Value.{Value}
use Rattle.network_syntax.specs.Syntax.{mark}
use Rattle.check_subtyping.specs.Subtype.{implies, are_subtypes, is_subtype}
use Rattle.check_subtyping.specs.Own.{fits}
use Rattle.network.specs.Form.{WellFormed}
use Rattle.network.specs.Layout.{type_count}
use Rattle.network.specs.Decode.{type_of}
use Rattle.tree.specs.Encode.{root_count, encode, rooted}
use Rattle.tree.specs.Standing.{Row, Root}
use Rattle.tree_edit.specs.Wrote.{Wrote}
use Rattle.check_types.specs.Image.{image, type_tree, types_as, type_as}
use Rattle.check_types.specs.TypeRows.{row_types}

-- A child of T2 with the mark n and basic type b accepts one of T1 with the mark m and basic type c, their children aside: "with a
-- subtype, mandatory if T2 has it mandatory".
abbrev pub accepts : Bool → ℕ → Bool → ℕ → Bool
accepts n b m c = eqb c b && implies n m

-- x tells whether the types of the n rows from r on are ≤ the m types that stand at `at`.
pub record RowsUnder (file : List ℕ) (r n : ℕ) (s : List ℕ) (at m : ℕ) (x : Bool) : Type 0 where
  pub tells : (v : Forest Value) → WellFormed file → r + n ≤ type_count file → Row s at v → root_count v ≡ m →
      x ≡ are_subtypes (row_types file r n) (types_as false v)

-- x tells whether the m types that stand at `at` are ≤ those of the n rows from r on.
pub record TreesUnder (own : Bool) (s : List ℕ) (at m : ℕ) (file : List ℕ) (r n : ℕ) (x : Bool) : Type 0 where
  pub tells : (v : Forest Value) → WellFormed file → r + n ≤ type_count file → Row s at v → root_count v ≡ m →
      x ≡ are_subtypes (types_as own v) (row_types file r n)

-- x tells whether the type of row r is ≤ the type that stands at `at`.
pub record RowUnder (file : List ℕ) (r : ℕ) (s : List ℕ) (at : ℕ) (x : Bool) : Type 0 where
  pub tells : (i : ℕ) (t : Tree Value) → WellFormed file → r < type_count file → Root s at i t →
      x ≡ is_subtype (type_of file r) (type_as false t)

-- x tells whether the tree that stands at `at`, read as a type or by its own type, is ≤ the type of row r.
pub record TreeUnder (own : Bool) (s : List ℕ) (at : ℕ) (file : List ℕ) (r : ℕ) (x : Bool) : Type 0 where
  pub tells : (i : ℕ) (t : Tree Value) → WellFormed file → r < type_count file → Root s at i t →
      x ≡ is_subtype (type_as own t) (type_of file r)

-- 01: "it fits T if that is ≤ T". x tells whether the message at the start of s fits the type of row r.
pub record FitsRow (s file : List ℕ) (r : ℕ) (x : Bool) : Type 0 where
  pub tells : (i : ℕ) (t : Tree Value) → WellFormed file → r < type_count file → Root s 0 i t → x ≡ fits t (type_of file r)

-- x tells whether the basic type b alone is ≤ the type of row r.
pub record BasicUnder (file : List ℕ) (b r : ℕ) (x : Bool) : Type 0 where
  pub tells : WellFormed file → r < type_count file → x ≡ is_subtype (tree (mark true b) end) (type_of file r)

-- x tells whether the type of row r is ≤ that of row t.
pub record RowsOrder (file : List ℕ) (r t : ℕ) (x : Bool) : Type 0 where
  pub tells : WellFormed file → r < type_count file → t < type_count file → x ≡ is_subtype (type_of file r) (type_of file t)

-- The types of the n rows from r on are written from w on, up to e.
pub record RowsWritten (file : List ℕ) (r n : ℕ) (o o' : List ℕ) (w e : ℕ) : Type 0 where
  pub inside : e ≤ length o
  pub writes : WellFormed file → r + n ≤ type_count file → nodes (row_types file r n) ≤ 48 → w + 7 * nodes (row_types file r n) ≤ length o →
      Wrote o o' w e (7 * nodes (row_types file r n)) (encode (image (row_types file r n)))

-- The type of row r is written from the start on, up to e, as a tree alone.
pub record TypeWritten (file : List ℕ) (r : ℕ) (o o' : List ℕ) (e : ℕ) : Type 0 where
  pub inside : e ≤ length o
  pub writes : WellFormed file → r < type_count file → Wrote o o' 0 e e (encode (rooted (type_tree (type_of file r))))
