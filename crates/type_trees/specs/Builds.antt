-- The types declared so far by their images, and what making a declaration's type tells.
use Rattle.std.specs.Prelude.{◌≡◌, List, [], ◌∷◌, Bool, true, ℕ, zero, suc, ◌+◌, ◌*◌, ◌≤◌, length}
use Rattle.wire.specs.Wire.{u16_at, part}
use Rattle.scalar.specs.Basic.{last_basic}
use Rattle.tree_forest.specs.Limits.{message_nodes_below, message_levels_below}
use Rattle.tree_forest.specs.Forest.{end, Tree, tree, nodes, levels}
use Rattle.network_syntax.specs.Syntax.{Mark, mark, Types}
use Rattle.check_subtyping.specs.Subtype.{root_children}
use Rattle.check_types.specs.TypeRowsLaws.{TypeKeeps}
use Rattle.type_text.specs.Spelling.{closing}
use Rattle.type_text.specs.Grammar.{Children}
use Rattle.type_text.specs.Meaning.{NamedType, named_type, type_named, as_child, forest_from, type_from}
use Rattle.type_text.specs.Reader.{Item, items_at, parsed, next_is, after_next, Side, inline, reference, read_side, read_type_tree, read_children}
use Rattle.type_reading.specs.Tables.{word_from, declared_names}
use Rattle.type_reading.specs.Readings.{Onward}
use Rattle.type_rows.specs.MeaningLaws.{ProperList, FreshFor}
use Rattle.type_images.specs.TypeImages.{image_of, HoldsType}
use Rattle.type_images.specs.declared.TypeImage.{TypeImage}
use Rattle.type_trees.specs.Names.{names_up_to}
use Rattle.type_trees.specs.declared.Built.{Built}

-- The image of a type that has `below` nodes below its root, from a row on: seven bytes a row.
pub record ImageAt (images : List ℕ) (row below : ℕ) (t : Tree Mark) : Type 0 where
  pub keeps : TypeKeeps t
  pub count : below ≡ nodes (root_children t)
  pub image : part images (7 * row) (7 * suc below) ≡ image_of t

-- The types declared so far, the last one first, are the first n entries of the table. An entry has 6 bytes: the place of the name, the nodes
-- below the type's root, and its first row.
unfoldable pub KnownImages : List ℕ → List ℕ → List ℕ → ℕ → List NamedType → Type 0
KnownImages s table images zero [] = Unit {0}
KnownImages s table images zero (x ∷ known) = ⊥
KnownImages s table images (suc n) [] = ⊥
KnownImages s table images (suc n) (named_type v t ∷ known) =
    (word_from s (u16_at table (6 * n)) ≡ v) × ImageAt images (u16_at table (6 * n + 4)) (u16_at table (6 * n + 2)) t × KnownImages s table images n known

-- The type of a child by what stands after its `:`.
abbrev pub side_type : List (List ℕ) → List NamedType → Bool → Side → Tree Mark
side_type ids known m (inline b c) = tree (mark m b) (forest_from ids known end c)
side_type ids known m (reference t) = as_child m (type_named known t)

-- What the rules say of it (`type_rows/MeaningLaws` of a list).
abbrev pub ProperSide : List (List ℕ) → Side → Type 0
ProperSide ids (inline b c) = (b ≤ last_basic) × ProperList ids [] c
ProperSide ids (reference t) = Unit {0}

-- 01, 5: "at most 16 nodes and 4 levels", one of each being the root.
abbrev pub LimitsKept : Types → Type 0
LimitsKept f = (nodes f ≤ message_nodes_below) × (levels f ≤ message_levels_below)

-- r is what was made, and the place past a closing brace, where one follows it.
pub record ClosingPassed (s : List ℕ) (made r : Built) : Type 0 where
  pub onward : Onward s made.at r.at
  pub same : r.image ≡ made.image
  pub passes : next_is closing (items_at s made.at) ≡ true → after_next (items_at s made.at) ≡ items_at s r.at

-- r is the type of what stands at `at` after a `:`, and the place past it; the first `allowed` types of the table may be named there, all n of them
-- in its lists.
pub record SideBuilt (s : List ℕ) (at : ℕ) (table : List ℕ) (allowed n : ℕ) (names : List ℕ) (m : ℕ) (images : List ℕ) (mandatory : Bool) (r : Built)
    : Type 0 where
  pub onward : Onward s at r.at
  pub tells : (known : List NamedType) (f : ℕ) (side : Side) (rest : List Item) → KnownImages s table images n known → length (items_at s at) ≤ f
      → read_side (length s) (declared_names s table allowed) (read_children (length s) (declared_names s table n) f []) (items_at s at) ≡ parsed side rest
      → ProperSide (names_up_to s names m) side → LimitsKept (root_children (side_type (names_up_to s names m) known mandatory side))
      → (rest ≡ items_at s r.at) × HoldsType r.image (side_type (names_up_to s names m) known mandatory side)

-- r is the type that acc holds with the children of the list at `at` put in, and the place past the list.
pub record ListBuilt (s : List ℕ) (at : ℕ) (table : List ℕ) (n : ℕ) (names : List ℕ) (m : ℕ) (images : List ℕ) (acc : TypeImage) (r : Built) : Type 0 where
  pub onward : Onward s at r.at
  pub tells : (known : List NamedType) (f : ℕ) (seen : List (List ℕ)) (c : Children) (rest : List Item) (a : Mark) (k : Types)
      → KnownImages s table images n known → length (items_at s at) ≤ f
      → read_children (length s) (declared_names s table n) f seen (items_at s at) ≡ parsed c rest
      → ProperList (names_up_to s names m) seen c → FreshFor (names_up_to s names m) seen k → HoldsType acc (tree a k)
      → LimitsKept (forest_from (names_up_to s names m) known k c)
      → (rest ≡ items_at s r.at) × HoldsType r.image (tree a (forest_from (names_up_to s names m) known k c))

-- r is the type of the declaration whose tree stands at `at`, and the place past it.
pub record TreeBuilt (s : List ℕ) (at : ℕ) (table : List ℕ) (n : ℕ) (names : List ℕ) (m : ℕ) (images : List ℕ) (r : Built) : Type 0 where
  pub onward : Onward s at r.at
  pub tells : (known : List NamedType) (f b : ℕ) (c : Children) (rest : List Item) → KnownImages s table images n known → length (items_at s at) ≤ f
      → read_type_tree (length s) (read_children (length s) (declared_names s table n) f []) (items_at s at) ≡ parsed (inline b c) rest
      → b ≤ last_basic → ProperList (names_up_to s names m) [] c → LimitsKept (forest_from (names_up_to s names m) known end c)
      → (rest ≡ items_at s r.at) × HoldsType r.image (type_from (names_up_to s names m) known b c)
