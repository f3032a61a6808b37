-- Types in the byte form of trees: each node's value is its mark. So an environment, and a T row written out, is a tree of values, and a
-- message is read as a type by the same walk. 01, Typing: "A message's own type has every child mandatory".
use Rattle.std.specs.Prelude.{List, [], ◌∷◌, Bool, true, false, ℕ, ◌<◌, ◌≤◌, get_or, eqb}
use Rattle.tree_forest.specs.Forest.{Forest, end, node, Tree, tree, map_forest, map_tree}
use Rattle.scalar.specs.Basic.{raw, last_basic}
use Rattle.scalar.specs.Value.{Value, value}
use Rattle.basics.specs.Choice.{pick}
use Rattle.network_syntax.specs.Syntax.{Mark, mark, Types, MessageType}
use Rattle.check_subtyping.specs.Subtype.{root_basic, root_children}
use Rattle.check_subtyping.specs.Own.{own_mark}
use Rattle.tree.specs.Decode.{id_at, basic_at, count_at, value_at, next_at, head_ok}
use Rattle.check_types.specs.declared.TypeHead.{TypeHead}
use Rattle.std.specs.Prelude.{Option, Some, None}

-- 1 for mandatory, 0 for optional.
abbrev pub flag : Bool → ℕ
flag true = 1
flag false = 0

-- A mark as a value: two bytes, whether it is mandatory and the basic type.
abbrev pub mark_value : Mark → Value
mark_value (mark m b) = value raw (flag m ∷ b ∷ [])

-- Types as a forest of values.
abbrev pub image : Types → Forest Value
image f = map_forest mark_value f

-- A type as a tree of values, its root mandatory: "T goes in as mandatory".
abbrev pub type_tree : MessageType → Tree Value
type_tree t = tree (mark_value (mark true (root_basic t))) (image (root_children t))

-- Ids fit u16 and are not 0, basic types are 0 to 6.
unfoldable pub InRange : Types → Type 0
InRange end = Unit {0}
InRange (node i (mark m b) k r) = (0 < i) × (i < 65536) × (b ≤ last_basic) × InRange k × InRange r

-- The mark that a value of two bytes stands for. Every value is read as some mark.
abbrev pub mark_in : Value → Mark
mark_in (value b v) = mark (eqb (get_or v 0 0) 1) (get_or v 1 0)

-- The mark of a node: of an own type, or the one that its value stands for.
abbrev pub mark_as : Bool → Value → Mark
mark_as true a = own_mark a
mark_as false a = mark_in a

-- The types that a forest is read as, and the type that a tree is read as.
abbrev pub types_as : Bool → Forest Value → Types
types_as own f = map_forest (mark_as own) f

abbrev pub type_as : Bool → Tree Value → MessageType
type_as own t = map_tree (mark_as own) t

abbrev pub type_header : ℕ → Bool → ℕ → ℕ → ℕ → TypeHead
type_header i m b c k = record { id = i; mandatory = m; basic = b; count = c; start = k }

-- A node of a type as it is read at a position: its id, mandatory or not, its basic type, its child count and where its children start.
unfoldable pub type_head_at : Bool → List ℕ → ℕ → Option TypeHead
type_head_at own s at =
    pick (head_ok s at)
    (pick own (Some (type_header (id_at s at) true (basic_at s at) (count_at s at) (next_at s at)))
    (Some (type_header (id_at s at) (eqb (get_or (value_at s at) 0 0) 1) (get_or (value_at s at) 1 0) (count_at s at) (next_at s at))))
    None
