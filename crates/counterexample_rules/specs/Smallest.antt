-- The message that shows that two types do not fit. 02, Wish 6: "Given two type rows of a file, write the message that fits the first and
-- not the second: fewest nodes, then lowest bytes in order."
use Rattle.std.specs.Prelude.{ℕ, ◌<◌}
use Rattle.tree_forest.specs.Forest.{Forest, end, node, Tree, tree}
use Rattle.scalar.specs.Value.{Value}
use Rattle.tree.specs.Encode.{encode, rooted, Message}
use Rattle.network_syntax.specs.Syntax.{Mark, Types, MessageType}
use Rattle.network.specs.Shapes.{TypeShape}
use Rattle.check_subtyping.specs.Own.{Fits}
use Rattle.counterexample_rules.specs.Order.{Lower}

-- m is a message: its bytes are those of one.
abbrev pub IsMessage : Tree Value → Type 0
IsMessage m = Message (encode (rooted m)) m

-- "the message that fits the first and not the second".
pub record Counterexample (t u : MessageType) (m : Tree Value) : Type 0 where
  pub message : IsMessage m
  pub fits_first : Fits m t
  pub misfits : Fits m u → ⊥

-- "fewest nodes, then lowest bytes in order": no message that breaks it is lower.
pub record Smallest (t u : MessageType) (m : Tree Value) : Type 0 where
  pub breaks : Counterexample t u m
  pub lowest : (n : Tree Value) → Counterexample t u n → Lower n m → ⊥

-- 01, T: "id u16".
unfoldable pub IdsBelow : Types → Type 0
IdsBelow end = Unit {0}
IdsBelow (node i a k r) = (i < 65536) × IdsBelow k × IdsBelow r

abbrev pub TreeIdsBelow : MessageType → Type 0
TreeIdsBelow (tree a k) = IdsBelow k

-- "over all types within the limits": 01's of a T row written out.
pub record TypeWithin (t : MessageType) : Type 0 where
  pub shape : TypeShape t
  pub ids : TreeIdsBelow t
