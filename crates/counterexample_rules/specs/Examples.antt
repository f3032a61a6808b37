-- Pairs of types, each with the message that fits the first and not the second, as one table, and one proof that every row holds.
use Rattle.std.specs.Prelude.{◌≡◌, refl, List, [], ◌∷◌, Bool, true, false, ℕ}
use Rattle.tree_forest.specs.Forest.{Forest, end, node, Tree, tree, measure, map_forest}
use Rattle.scalar.specs.Basic.{bool, int, double, long, void}
use Rattle.scalar.specs.Value.{Value, value, least_bytes}
use Rattle.tree.specs.Encode.{encode, root_count}
use Rattle.network_syntax.specs.Syntax.{Mark, mark, Types, MessageType, Optional, none, some}
use Rattle.check_subtyping.specs.Subtype.{are_subtypes}
use Rattle.counterexample_rules.specs.Order.{is_lower_bytes, is_lower}
use Rattle.counterexample_rules.specs.Breaking.{least_of, least_with, lowest_of, breaking}

-- Two types, and the message, or that there is none.
pub data ExamplePair : Type 0 where
  pair : MessageType → MessageType → Optional (Tree Value) → ExamplePair

unfoldable pub AllBreak : List ExamplePair → Type 0
AllBreak [] = Unit {0}
AllBreak (pair t u b ∷ l) = (breaking t u ≡ b) × AllBreak l

-- `void {.load : double.clipped? : bool}` and `void {.load : double}`, load having the id 1 and clipped 2.
abbrev pub lift_type : MessageType
lift_type = tree (mark true void) (node 1 (mark true double) end (node 2 (mark false bool) end end))

abbrev pub weight_type : MessageType
weight_type = tree (mark true void) (node 1 (mark true double) end end)

-- A void root with what is given below it.
abbrev over_void : Types → MessageType
over_void k = tree (mark true void) k

abbrev void_with : Forest Value → Optional (Tree Value)
void_with f = some (tree (least_of void) f)

abbrev pub examples : List ExamplePair
examples =
    -- a load of 0, not clipped
    pair lift_type weight_type (void_with (node 1 (least_of double) end (node 2 (least_of bool) end end)))
    ∷ pair weight_type lift_type none
    -- an optional child's mandatory child, which the second type does not know
    ∷ pair (over_void (node 1 (mark false void) (node 2 (mark true int) end end) end))
    (over_void (node 1 (mark false void) end end))
    (void_with (node 1 (least_of void) (node 2 (least_of int) end end) end))
    -- either child alone breaks it; of the ids 1 and 256 the bytes `00 01` are lower
    ∷ pair (over_void (node 1 (mark false bool) end (node 256 (mark false bool) end end))) (over_void end)
    (void_with (node 256 (least_of bool) end end))
    -- roots that differ: the mandatory nodes alone
    ∷ pair (tree (mark true int) (node 1 (mark true bool) end (node 2 (mark false bool) end end)))
    (tree (mark true long) (node 1 (mark true bool) end (node 2 (mark false bool) end end)))
    (some (tree (least_of int) (node 1 (least_of bool) end end)))
    -- a child that is mandatory in the second alone
    ∷ pair (over_void (node 1 (mark false bool) end end)) (over_void (node 1 (mark true bool) end end))
    (void_with end)
    ∷ []

pub examples-hold : AllBreak examples
unfolding AllBreak lowest_of least_with least_bytes is_lower is_lower_bytes are_subtypes measure map_forest encode root_count
examples-hold = (refl, (refl, (refl, (refl, (refl, (refl, tt))))))
