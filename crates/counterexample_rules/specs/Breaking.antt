-- The message that breaks it, as a function: of the least messages of the first type with one node of it, the lowest that does not fit the
-- second.
use Rattle.std.specs.Prelude.{Bool, true, false, ◌&&◌, ◌||◌, ℕ, zero, suc, ◌+◌, ◌-◌, leb, ltb}
use Rattle.basics.specs.Choice.{pick}
use Rattle.tree_forest.specs.Forest.{Forest, end, node, Tree, tree, nodes}
use Rattle.scalar.specs.Value.{Value, value, least_bytes}
use Rattle.network_syntax.specs.Syntax.{Mark, mark, Types, MessageType, Optional, none, some}
use Rattle.network.specs.Shapes.{tree_nodes}
use Rattle.check_subtyping.specs.Own.{fits}
use Rattle.counterexample_rules.specs.Order.{is_lower}

-- "lowest bytes": the least value of a basic type.
abbrev pub least_of : ℕ → Value
least_of b = value b (least_bytes b)

-- Does the least message hold a child: a mandatory one, or one on the way to the node number j? Nodes are counted from 1, in preorder;
-- `size` is how many the child has with all below it.
abbrev pub holds_child : Bool → ℕ → ℕ → Bool
holds_child m j size = m || (ltb 0 j && leb j size)

-- Of sibling types the mandatory ones and the one on the way to the node number j, and of each again such children, with the least values.
-- The number 0, or one past the last, is that of no node.
unfoldable pub least_with : ℕ → Types → Forest Value
least_with j end = end
least_with j (node i (mark m b) k r) =
    let others = least_with (j - (1 + nodes k)) r in
    pick (holds_child m j (1 + nodes k)) (node i (least_of b) (least_with (j - 1) k) others) others

-- The least message of a type with its node number j, the root having 0.
abbrev pub least_message : MessageType → ℕ → Tree Value
least_message (tree (mark m b) k) j = tree (least_of b) (least_with j k)

-- The lower of a message that does not fit u and the lowest one so far; one that fits u does not count.
abbrev pub lower_of : MessageType → Tree Value → Optional (Tree Value) → Optional (Tree Value)
lower_of u m none = pick (fits m u) none (some m)
lower_of u m (some best) = pick (fits m u) (some best) (pick (is_lower m best) (some m) (some best))

-- The lowest of the least messages of t with its nodes below number n that do not fit u.
unfoldable pub lowest_of : MessageType → MessageType → ℕ → Optional (Tree Value)
lowest_of t u zero = none
lowest_of t u (suc n) = lower_of u (least_message t n) (lowest_of t u n)

-- The message that fits t and not u, if there is one; t has at most 16 nodes.
abbrev pub breaking : MessageType → MessageType → Optional (Tree Value)
breaking t u = lowest_of t u (tree_nodes t)
