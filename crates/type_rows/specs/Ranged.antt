-- What declared types keep, and which network files have their rows.
use Rattle.std.specs.Prelude.{ℕ, ◌+◌, ◌*◌, ◌≤◌, ◌<◌, ◌≡◌, List, [], ◌∷◌, true, false}
use Rattle.wire.specs.Wire.{byte_at}
use Rattle.tree_forest.specs.Forest.{end, node, RisingTree}
use Rattle.network_syntax.specs.Syntax.{mandatory, Types, MessageType}
use Rattle.network.specs.Layout.{type_count, type_at}
use Rattle.network.specs.Shapes.{TreeNodesShape, root_mark}
use Rattle.type_text.specs.TypeRows.{row_count, type_rows_from, is_too_large}

-- T: "ids rising strictly and not 0", basic types 0 to 6; "A message type's root has .. cardinality 1".
pub record WellRanged (t : MessageType) : Type 0 where
  pub rising : RisingTree t
  pub each_node : TreeNodesShape t
  pub mandatory_root : mandatory (root_mark t) ≡ true

-- Every id is at most n.
unfoldable pub IdsUpTo : ℕ → Types → Type 0
IdsUpTo n end = Unit {0}
IdsUpTo n (node i a k r) = (i ≤ n) × IdsUpTo n k × IdsUpTo n r

-- 01, 5: "Every T row written out has at most 16 nodes and 4 levels".
abbrev pub Small : MessageType → Type 0
Small t = is_too_large t ≡ false

-- What holds of each type of a list.
unfoldable pub EachType : (MessageType → Type 0) → List MessageType → Type 0
EachType P [] = Unit {0}
EachType P (t ∷ l) = P t × EachType P l

-- The T section of the network file s is the rows of these types.
pub record TypeRowsOf (s : List ℕ) (ts : List MessageType) : Type 0 where
  pub rows : type_count s ≡ row_count ts
  pub bytes : (k : ℕ) → k < 8 * row_count ts → byte_at s (type_at s 0 + k) ≡ byte_at (type_rows_from 0 ts) k
