-- The one forest of the project. Types, environments, messages and session trees are all forests; they differ in what a
-- node carries besides its id: an edge mark and a basic type, or a basic type and a value.
-- 01, Typing: "An environment Γ is a tree under an empty root"; Message: "node = id .., value, then its children, ids rising strictly".
use Rattle.std.specs.Prelude.{Bool, true, false, ℕ, ◌<◌, ◌+◌, max}
use Rattle.tree_forest.specs.Compare.{Compare, lt, eq, gt, compare}

-- A forest is a list of sibling trees: `end`, or a node with its id, what it carries, its children and its later siblings.
pub data Forest (A : Type 0) : Type 0 where
  end : Forest A
  node : ℕ → A → Forest A → Forest A → Forest A

-- A tree without an id: what its root carries, and the root's children. A message type, a message, a subtree.
pub data Tree (A : Type 0) : Type 0 where
  tree : A → Forest A → Tree A

-- What a lookup finds.
pub data Lookup (A : Type 0) : Type 0 where
  absent : Lookup A
  present : Tree A → Lookup A

-- Is there a tree?
abbrev pub is_present : {A : Type 0} → Lookup A → Bool
is_present absent = false
is_present (present t) = true

module _ {A : Type 0} where
  abbrev pub find_by : {i j : ℕ} → Compare i j → Tree A → Lookup A → Lookup A
  find_by (lt h) n l = absent
  find_by (eq h) n l = present n
  find_by (gt h) n l = l

  -- The sibling with the id i. Ids rise, so the search stops at a larger id.
  unfoldable pub find : ℕ → Forest A → Lookup A
  find i end = absent
  find i (node j a k r) = find_by (compare i j) (tree a k) (find i r)

  abbrev pub node_of : ℕ → Tree A → Forest A → Forest A
  node_of i (tree a k) r = node i a k r

  abbrev pub set_by : {i j : ℕ} → Compare i j → Tree A → A → Forest A → Forest A → Forest A → Forest A
  set_by {i} {j} (lt h) n a k r s = node_of i n (node j a k r)
  set_by {i} {j} (eq h) n a k r s = node_of j n r
  set_by {i} {j} (gt h) n a k r s = node j a k s

  -- The siblings with the tree n under the id i: put in the place of the one that is there, or inserted in the order of ids.
  unfoldable pub set : ℕ → Tree A → Forest A → Forest A
  set i n end = node_of i n end
  set i n (node j a k r) = set_by (compare i j) n a k r (set i n r)

  -- The children of what was found; none where nothing was.
  abbrev pub children_of : Lookup A → Forest A
  children_of absent = end
  children_of (present (tree a k)) = k

  -- What the root of what was found carries; d where nothing was.
  abbrev pub payload_of : A → Lookup A → A
  payload_of d absent = d
  payload_of d (present (tree a k)) = a

  -- The first id, if there is one, is above i.
  abbrev pub Above : ℕ → Forest A → Type 0
  Above i end = Unit {0}
  Above i (node j a k r) = i < j

  -- 01: "ids rising strictly", among the siblings and among the children of each node.
  unfoldable pub Rising : Forest A → Type 0
  Rising end = Unit {0}
  Rising (node i a k r) = Above i r × Rising k × Rising r

  abbrev pub RisingTree : Tree A → Type 0
  RisingTree (tree a k) = Rising k

  abbrev pub RisingLookup : Lookup A → Type 0
  RisingLookup absent = Unit {0}
  RisingLookup (present n) = RisingTree n

  -- A measure of a forest: g joins one more than the measure of a node's children with that of its later siblings.
  unfoldable pub measure : (ℕ → ℕ → ℕ) → Forest A → ℕ
  measure g end = 0
  measure g (node i a k r) = g (1 + measure g k) (measure g r)

  -- How many nodes there are in all.
  abbrev pub nodes : Forest A → ℕ
  nodes = measure ◌+◌

  -- How many levels there are: a row of siblings without children is one.
  abbrev pub levels : Forest A → ℕ
  levels = measure max

module _ {A B : Type 0} (f : A → B) where
  -- The same forest with what each node carries changed by f.
  unfoldable pub map_forest : Forest A → Forest B
  map_forest end = end
  map_forest (node i a k r) = node i (f a) (map_forest k) (map_forest r)

  abbrev pub map_tree : Tree A → Tree B
  map_tree (tree a k) = tree (f a) (map_forest k)

  abbrev pub map_lookup : Lookup A → Lookup B
  map_lookup absent = absent
  map_lookup (present n) = present (map_tree n)
