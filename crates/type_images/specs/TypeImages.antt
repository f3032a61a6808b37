-- Types as encoded trees, by value, and what the functions that make them tell.
use Rattle.std.specs.Prelude.{◌≡◌, List, Bool, ℕ, suc, ◌*◌, ◌≤◌, ◌<◌, take}
use Rattle.wire.specs.Wire.{part}
use Rattle.scalar.specs.Basic.{last_basic}
use Rattle.tree_forest.specs.Forest.{end, Tree, tree, set, nodes, levels, map_tree}
use Rattle.tree.specs.Encode.{encode, rooted}
use Rattle.network_syntax.specs.Syntax.{Mark, mark, Types}
use Rattle.check_subtyping.specs.Subtype.{root_children}
use Rattle.check_types.specs.Image.{mark_value}
use Rattle.check_types.specs.TypeRowsLaws.{TypeKeeps}
use Rattle.type_text.specs.Meaning.{as_child}
use Rattle.type_images.specs.declared.TypeImage.{TypeImage}

-- The bytes of a type: its encoded tree, each node's value being its mark.
abbrev pub image_of : Tree Mark → List ℕ
image_of t = encode (rooted (map_tree mark_value t))

-- How many they are: seven a node.
abbrev pub image_size : Tree Mark → ℕ
image_size t = 7 * suc (nodes (root_children t))

-- The value e holds the type t, which keeps to the limits of a T row.
pub record HoldsType (e : TypeImage) (t : Tree Mark) : Type 0 where
  pub image : take e.len e.bytes ≡ image_of t
  pub size : e.len ≡ image_size t
  pub keeps : TypeKeeps t

-- r is a basic type alone.
pub record LeafMade (m : Bool) (b : ℕ) (r : TypeImage) : Type 0 where
  pub tells : b ≤ last_basic → HoldsType r (tree (mark m b) end)

-- r is the type whose bytes stand at `start`, as a child.
pub record TypeCopied (images : List ℕ) (start len : ℕ) (m : Bool) (r : TypeImage) : Type 0 where
  pub tells : (t : Tree Mark) → TypeKeeps t → len ≡ image_size t → part images start len ≡ image_of t → HoldsType r (as_child m t)

-- r is the type whose bytes g are, with the one whose bytes m are as its child under the id.
pub record BytesPut (g : List ℕ) (id : ℕ) (m : List ℕ) (r : TypeImage) : Type 0 where
  pub tells : (a : Mark) (k : Types) (u : Tree Mark) → g ≡ image_of (tree a k) → TypeKeeps (tree a k) → m ≡ image_of u → TypeKeeps u → 0 < id
      → nodes (set id u k) ≤ 15 → levels (set id u k) ≤ 3 → HoldsType r (tree a (set id u k))

-- The same of types by value.
pub record ChildPut (e : TypeImage) (id : ℕ) (d r : TypeImage) : Type 0 where
  pub tells : (a : Mark) (k : Types) (u : Tree Mark) → HoldsType e (tree a k) → HoldsType d u → 0 < id
      → nodes (set id u k) ≤ 15 → levels (set id u k) ≤ 3 → HoldsType r (tree a (set id u k))
