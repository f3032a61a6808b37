-- The own type of a message or of a session's tree. 01, Typing: "A message's own type has every child mandatory; it fits T
-- if that is ≤ T." Moves: a session's tree has its own type in the same way.
use Rattle.std.specs.Prelude.{Bool, true}
use Rattle.tree_forest.specs.Forest.{Forest, Tree, Lookup, map_forest, map_tree, map_lookup}
use Rattle.scalar.specs.Value.{Value, basic_of}
use Rattle.network_syntax.specs.Syntax.{Mark, mark, Types, MessageType}
use Rattle.check_subtyping.specs.Subtype.{Subtype, is_subtype}

-- A node's mark in the own type: mandatory, with the basic type of its value.
abbrev pub own_mark : Value → Mark
own_mark v = mark true (basic_of v)

-- The own type of a list of trees, of a tree, of what a lookup found.
abbrev pub own_types : Forest Value → Types
own_types F = map_forest own_mark F

abbrev pub own_type : Tree Value → MessageType
own_type m = map_tree own_mark m

abbrev pub own_lookup : Lookup Value → Lookup Mark
own_lookup l = map_lookup own_mark l

-- "it fits T if that is ≤ T", as a relation and as a test.
abbrev pub Fits : Tree Value → MessageType → Type 0
Fits m t = Subtype (own_type m) t

abbrev pub fits : Tree Value → MessageType → Bool
fits m t = is_subtype (own_type m) t
