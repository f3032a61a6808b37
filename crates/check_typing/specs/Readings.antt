-- Why 01 says what it says: three readings that a reader might drift into, each with the tree or value that it would let
-- through. In each the first equations say what 01's rule does, the others what would happen under the wrong reading.
use Rattle.std.specs.Prelude.{◌≡◌, refl, List, [], ◌∷◌, true, false, ℕ}
use Rattle.tree_forest.specs.Forest.{Forest, end, node, Tree, tree, absent, find, set, measure, map_forest}
use Rattle.tree_forest.specs.Path.{Path, path, read_steps, read, write_steps, replace_at, set_payload_at}
use Rattle.refusal.specs.declared.Refusal.TheVariants.{PathNotFirm, SharedRoot}
use Rattle.scalar.specs.Basic.{int, void}
use Rattle.scalar.specs.Value.{Value, value}
use Rattle.network_syntax.specs.Syntax.{mark, Types, constant, value_at, Behaviour, sequence, parallel, assign}
use Rattle.check_subtyping.specs.Subtype.{are_subtypes}
use Rattle.check_subtyping.specs.Own.{own_types}
use Rattle.check_typing.specs.Result.{fails, refused, passed, next}
use Rattle.check_typing.specs.Environment.{missing_step, basic_leaf, firm_steps, firm_above_steps, no_mandatory, place, assign_to}
use Rattle.check_typing.specs.ExpressionTyping.{expression_type}
use Rattle.check_typing.specs.Occurs.{occurs, occurs_in, all_roots, all_roots_in}
use Rattle.check_typing.specs.Checker.{same_types, check}

-- The paths a and a.b, another root c, the value 1, the value of a missing step, a tree with nothing in it.
abbrev path_a : Path
path_a = path 1 []

abbrev path_ab : Path
path_ab = path 1 (2 ∷ [])

abbrev path_c : Path
path_c = path 3 []

abbrev one : Value
one = value int (1 ∷ 0 ∷ 0 ∷ 0 ∷ [])

abbrev nothing : Value
nothing = value void []

abbrev empty : Forest Value
empty = end

-- 1. "no root id .. occurs on both sides": roots that are only read count too. The sides `a = 1` and `c = a` write different roots.
abbrev left : Behaviour
left = assign 1 path_a (constant one)

abbrev right : Behaviour
right = assign 2 path_c (value_at path_a)

-- 01 refuses them in parallel with 11. If only written roots counted they would be typed left, then right, which passes; but
-- the right side may run first, in a tree where the value that it reads is missing.
pub parallel-counts-read-roots :
    (check 0 (parallel 0 left right) end ≡ refused (SharedRoot 0))
    × (check 0 (sequence 0 left right) end ≡ passed (node 1 (mark true int) end (node 3 (mark true int) end end)))
    × (read path_a empty ≡ absent)
unfolding check next expression_type same_types occurs occurs_in all_roots all_roots_in firm_steps firm_above_steps find set measure read_steps write_steps
parallel-counts-read-roots = (refl, refl, refl)

-- 2. "x is mandatory or has no mandatory child (else 7)". Γ is `a?:int{.b:int}`; the empty tree's own type is ≤ Γ.
abbrev optional_a : Types
optional_a = node 1 (mark false int) (node 2 (mark true int) end end) end

-- 01 refuses `a = 1` with 7. If it passed, with Γ as it is, the tree after it would be `a:int` without b, not ≤ Γ.
pub assign-needs-no-mandatory-child :
    (assign_to path_a int optional_a ≡ fails PathNotFirm)
    × (are_subtypes (own_types empty) optional_a ≡ true)
    × (are_subtypes (own_types (set_payload_at nothing path_a one empty)) optional_a ≡ false)
unfolding are_subtypes firm_above_steps no_mandatory find set read_steps write_steps map_forest
assign-needs-no-mandatory-child = (refl, refl, refl)

-- 3. "Otherwise the longest part of x in Γ stands firm". Γ is `a?:int`; the empty tree's own type is ≤ Γ.
abbrev optional_int : Types
optional_int = node 1 (mark false int) end end

-- 01 refuses to place an int at a.b with 7. If it went in below the optional edge, Γ would be `a?:int{.b:int}`; receiving the
-- int makes the missing step void, so the tree after it would be `a:void{.b:int}`, not ≤ that Γ.
pub place-needs-firm-part :
    (place path_ab (basic_leaf int) optional_int ≡ fails PathNotFirm)
    × (are_subtypes (own_types empty) optional_int ≡ true)
    × (are_subtypes (own_types (replace_at nothing path_ab (tree one end) empty)) (replace_at missing_step path_ab (basic_leaf int) optional_int) ≡ false)
unfolding are_subtypes firm_above_steps find set read_steps write_steps map_forest
place-needs-firm-part = (refl, refl, refl)
