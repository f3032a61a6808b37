-- The byte form of trees of values: messages, session trees, and environments (whose values are marks). 01, Message: "node = id u16
-- (root 0), basic u8, child count u8, length u8, value, then its children, ids rising strictly and not 0; at most 16 nodes, 4 levels;
-- nothing after it". "Numbers are little-endian".
use Rattle.std.specs.Prelude.{◌≡◌, List, [], ◌∷◌, ◌++◌, true, ℕ, suc, ◌/◌, ◌%◌, ◌<◌, ◌≤◌, length, get_or}
use Rattle.tree_forest.specs.Limits.{message_levels_below, message_nodes_below}
use Rattle.tree_forest.specs.Forest.{Forest, end, node, Tree, tree, node_of, Rising, nodes, levels}
use Rattle.scalar.specs.Basic.{void}
use Rattle.scalar.specs.Value.{Value, value, basic_of, bytes_of, is_value}

module _ {A : Type 0} where
  -- How many trees stand side by side: of a node's children, its "child count".
  unfoldable pub root_count : Forest A → ℕ
  root_count end = 0
  root_count (node i a ks rest) = suc (root_count rest)

  -- What a tree's root carries, and its children.
  abbrev pub payload : Tree A → A
  payload (tree a ks) = a

  abbrev pub children : Tree A → Forest A
  children (tree a ks) = ks

-- "node = id u16 .., basic u8, child count u8, length u8, value, then its children"; then its later siblings.
unfoldable pub encode : Forest Value → List ℕ
encode end = []
encode (node i (value b v) ks rest) =
    i % 256 ∷ i / 256 ∷ b ∷ root_count ks ∷ length v ∷ (v ++ (encode ks ++ encode rest))

-- "(root 0)": a tree alone, its root with the id 0.
abbrev pub rooted : Tree Value → Forest Value
rooted t = node_of 0 t end

-- Every element is a byte.
pub record Octets (l : List ℕ) : Type 0 where
  pub small : (k : ℕ) → get_or l k 0 < 256

-- The bytes are a value of the basic type.
pub record Proper (a : Value) : Type 0 where
  pub valid : is_value (basic_of a) (bytes_of a) ≡ true
  pub bytes : Octets (bytes_of a)

-- "id u16 .. not 0", and every value one of its basic type.
unfoldable pub SoundValues : Forest Value → Type 0
SoundValues end = Unit {0}
SoundValues (node i a ks rest) = (0 < i) × (i < 65536) × Proper a × SoundValues ks × SoundValues rest

-- A tree with at most `deep` levels and `many` nodes below its root.
pub record WellFormedTree (deep many : ℕ) (t : Tree Value) : Type 0 where
  pub root : Proper (payload t)
  pub sound : SoundValues (children t)
  pub rising : Rising (children t)
  pub shallow : levels (children t) ≤ deep
  pub few : nodes (children t) ≤ many

-- The bytes s are those of the tree t, which keeps to the limits, and "nothing after it".
pub record Encodes (deep many : ℕ) (s : List ℕ) (t : Tree Value) : Type 0 where
  pub bytes : s ≡ encode (rooted t)
  pub good : WellFormedTree deep many t

-- 01, Message: the bytes s are a message, that of the tree t.
abbrev pub Message : List ℕ → Tree Value → Type 0
Message s t = Encodes message_levels_below message_nodes_below s t

-- What the root of a session's tree, and of an environment, carries.
abbrev pub empty : Value
empty = value void []
