-- Computed verdicts at points where the order of premises or the place of a refusal matters, one theorem for each group.
use Rattle.std.specs.Prelude.{◌≡◌, refl, List, [], ◌∷◌, Bool, true, false, ℕ, zero, suc, ◌+◌}
use Rattle.tree_forest.specs.Forest.{Forest, end, node, tree, find, set, measure}
use Rattle.tree_forest.specs.Path.{Path, path, read_steps, write_steps}
use Rattle.refusal.specs.declared.Refusal.TheVariants.{WrongOperation, PathNotFirm, OperandType, TypeMisfit, EnvironmentsDiffer}
use Rattle.refusal.specs.declared.Refusal.TheVariants.{SharedRoot, EnvironmentTooLarge, OutputMismatch, UnfitKey}
use Rattle.scalar.specs.Basic.{bool, int, long, string, void}
use Rattle.scalar.specs.Value.{Value, value}
use Rattle.network_syntax.specs.Syntax.{Mark, mark, Types, MessageType, add, logical_not, Expression, constant, value_at, unary, binary, input}
use Rattle.network_syntax.specs.Syntax.{output, Operation}
use Rattle.network_syntax.specs.Syntax.{Behaviour, nil, one_way, notification, if_then_else, parallel, assign, choice, Branches, last_branch, branch}
use Rattle.network_syntax.specs.Syntax.{none, some, Network}
use Rattle.network_syntax.specs.Rows.{row_of, entry}
use Rattle.network_syntax.specs.Meets.{some_at, meets, first_of, met_input}
use Rattle.check_subtyping.specs.Subtype.{are_subtypes, is_subtype}
use Rattle.check_typing.specs.Result.{fails, yields, refused, passed, next}
use Rattle.check_typing.specs.Environment.{within, basic_leaf, firm_steps, firm_above_steps, no_mandatory, place, assign_to}
use Rattle.check_typing.specs.ExpressionTyping.{expression_type}
use Rattle.check_typing.specs.Occurs.{occurs, occurs_in, all_roots, all_roots_in}
use Rattle.check_typing.specs.Rules.{permits}
use Rattle.check_typing.specs.Checker.{same_types, check}
use Rattle.check_typing.specs.NetworkRules.{branches_of, sequences_of, union, union_of}
use Rattle.check_typing.specs.NetworkChecker.{check_each, one_type, one_type_with, one_type_each, check_services, check_outputs}
use Rattle.check_typing.specs.NetworkChecker.{check_keys, check_network}

-- Paths of one id, a path a.b, constants, and nodes of an environment without children.
abbrev at : ℕ → Path
at i = path i []

abbrev path_ab : Path
path_ab = path 1 (2 ∷ [])

abbrev an_int : Expression
an_int = constant (value int (0 ∷ 0 ∷ 0 ∷ 0 ∷ []))

abbrev a_bool : Expression
a_bool = constant (value bool (1 ∷ []))

abbrev a_string : Expression
a_string = constant (value string [])

abbrev only : Bool → ℕ → Types → Types
only m b k = node 1 (mark m b) k end

-- Roots' cardinalities are not compared; a placing over an optional node leaves it optional.
pub roots-and-optional-nodes :
    (is_subtype (tree (mark true int) end) (tree (mark false int) end) ≡ true)
    × (is_subtype (tree (mark false int) end) (tree (mark true int) end) ≡ true)
    × (place (at 1) (basic_leaf int) (only false int end) ≡ yields (only false int end))
unfolding are_subtypes find read_steps firm_above_steps
roots-and-optional-nodes = (refl, refl, refl)

-- In an assign: first the expression, then the path above (7), the basic type (9), a mandatory child of an optional node (7).
pub order-of-assign :
    (check 0 (assign 5 path_ab (unary logical_not an_int)) (only false int end) ≡ refused (OperandType 5))
    × (check 0 (assign 5 path_ab an_int) (only false int end) ≡ refused (PathNotFirm 5))
    × (assign_to (at 1) bool (only false int (node 2 (mark true int) end end)) ≡ fails TypeMisfit)
    × (assign_to (at 1) int (only false int (node 2 (mark true int) end end)) ≡ fails PathNotFirm)
unfolding check expression_type find read_steps firm_above_steps no_mandatory measure
order-of-assign = (refl, refl, refl, refl)

-- Operands a and b are typed whole before the row's own rule: a string and a missing path give 7. A condition's root value counts.
pub order-of-operands :
    (expression_type end (binary add a_string (value_at (at 1))) ≡ fails PathNotFirm)
    × (expression_type end (binary add a_string a_string) ≡ fails OperandType)
    × (check 0 (if_then_else 5 (value_at (at 1)) (nil 6) (nil 7)) (only true bool (node 2 (mark true int) end end))
    ≡ passed (only true bool (node 2 (mark true int) end end)))
unfolding check next expression_type same_types find read_steps firm_steps
order-of-operands = (refl, refl, refl)

-- 11 of an outer parallel wins over an inner one, and over what is wrong on either side.
pub order-of-parallel :
    check 0 (parallel 5 (parallel 6 (assign 7 (at 1) an_int) (assign 8 (at 1) an_int)) (assign 9 (at 1) (value_at (at 2)))) end
    ≡ refused (SharedRoot 5)
unfolding check next occurs occurs_in all_roots all_roots_in
order-of-parallel = refl

-- 48 nodes pass, 49 give 12. `roots i n` has n nodes, with ids from i on.
unfoldable pub roots : ℕ → ℕ → Types
roots i zero = end
roots i (suc n) = node i (mark true void) end (roots (suc i) n)

pub limits :
    (within (roots 1 48) ≡ true) × (within (roots 1 49) ≡ false)
    × (check 0 (assign 5 (at 100) an_int) (roots 1 48) ≡ refused (EnvironmentTooLarge 5))
unfolding roots check expression_type find set read_steps write_steps firm_above_steps measure
limits = (refl, refl, refl)

-- An operation of the service q: one-way, with its O row, direction, id, location and request type.
abbrev operation : ℕ → ℕ → Operation
operation r q = record { row = r; service = q; direction = input; two_way = false; id = 1; location = 0; request = basic_leaf int; reply = basic_leaf void }

abbrev sending : ℕ → ℕ → MessageType → Operation
sending r l t = record { row = r; service = 0; direction = output; two_way = false; id = 1; location = l; request = t; reply = basic_leaf void }

-- The operation is tried first (6). All branches are checked before any two are compared, so a 7 in the last wins over a 10;
-- the place of a 10 is the choice's row.
abbrev receiving : ℕ → ℕ → Behaviour
receiving r x = one_way r (operation 0 0) (at x)

pub order-of-branches :
    (check 1 (receiving 5 1) end ≡ refused (WrongOperation 5))
    × (check 0 (choice 5 (branch 6 (receiving 7 1) (nil 8) (branch 9 (receiving 10 2) (nil 11)
    (last_branch 12 (receiving 13 1) (assign 14 (at 1) (value_at (at 3))))))) end ≡ refused (PathNotFirm 14))
    × (check 0 (choice 5 (branch 6 (receiving 7 1) (nil 8) (last_branch 12 (receiving 13 2) (nil 14)))) end ≡ refused (EnvironmentsDiffer 5))
unfolding check next expression_type permits same_types find set read_steps write_steps firm_steps firm_above_steps measure
order-of-branches = (refl, refl, refl)

-- A network with one service at location 1 that has a starter and no client, and these operations.
abbrev served : Behaviour → List Operation → Network
served B os = record { services = record { location = 1; starter = some B; client = none; key = 0 } ∷ []; operations = os }

abbrev two_branches : Behaviour → Behaviour
two_branches B = choice 5 (branch 6 (receiving 7 1) (nil 8) (last_branch 9 (receiving 10 1) B))

-- A starter's branches may bind different roots: its environment is the union. A root that two branches bind has one type, else
-- 10 at the starter's row. Outputs come last: an output to location 1 whose type does not fit gives 13 at its O row, one to a
-- location outside the file nothing.
pub starters-and-outputs :
    (check_network (served (two_branches (assign 11 (at 3) a_bool)) [])
    ≡ passed (record { starter = some (node 1 (mark true int) end (node 3 (mark true bool) end end)); client = none } ∷ []))
    × (check_network (served (two_branches (assign 11 path_ab a_bool)) (sending 4 1 (basic_leaf long) ∷ [])) ≡ refused (EnvironmentsDiffer 5))
    × (check_network (served (two_branches (nil 11)) (operation 0 0 ∷ sending 4 1 (basic_leaf long) ∷ [])) ≡ refused (OutputMismatch 4))
    × (check_network (served (two_branches (nil 11)) (operation 0 0 ∷ sending 4 1 (basic_leaf int) ∷ sending 6 9 (basic_leaf long) ∷ []))
    ≡ passed (record { starter = some (node 1 (mark true int) end end); client = none } ∷ []))
unfolding row_of check_network check_services check_each branches_of sequences_of union union_of one_type one_type_with one_type_each
    entry some_at meets first_of met_input check_outputs check_keys
    check next expression_type permits same_types are_subtypes find set read_steps write_steps firm_steps firm_above_steps measure
starters-and-outputs = (refl, refl, refl, refl)

-- Case d of 01 as the one client of a network.
pub case-d-client :
    check_network (record {
      services = record { location = 1; starter = none; client = some (assign 0 (path 5 (7 ∷ [])) an_int); key = 0 } ∷ [];
      operations = [];
    })
    ≡ passed (record { starter = none; client = some (node 5 (mark true void) (node 7 (mark true int) end end) end) } ∷ [])
unfolding check_network check_services check_outputs check_keys check next expression_type find set read_steps write_steps firm_above_steps measure
case-d-client = refl

-- A network with one service at location 1, keyed by the id 7, that has neither starter nor client, and these operations.
abbrev keyed_by_seven : List Operation → Network
keyed_by_seven os = record { services = record { location = 1; starter = none; client = none; key = 7 } ∷ []; operations = os }

abbrev asking : ℕ → Types → Operation
asking r k = record { row = r; service = 0; direction = input; two_way = false; id = r; location = 0; request = tree (mark true void) k; reply = basic_leaf void }

-- 23: the child must be there, mandatory and an int; what is below it is free. The place is the O row of the lowest unfit input, which 13 goes
-- before; outputs need no key.
pub inputs-of-a-keyed-service :
    (check_network (keyed_by_seven (asking 0 (node 7 (mark true int) (only false long end) end) ∷ sending 1 9 (basic_leaf long) ∷ []))
    ≡ passed (record { starter = none; client = none } ∷ []))
    × (check_network (keyed_by_seven (asking 0 (node 7 (mark true int) end end) ∷ asking 1 (node 7 (mark false int) end end) ∷ asking 2 end ∷ []))
    ≡ refused (UnfitKey 1))
    × (check_network (keyed_by_seven (asking 3 (node 7 (mark true long) end end) ∷ asking 4 end ∷ [])) ≡ refused (UnfitKey 3))
    × (check_network (keyed_by_seven (asking 0 end ∷ sending 1 1 (basic_leaf long) ∷ [])) ≡ refused (OutputMismatch 1))
unfolding check_network check_services check_outputs check_keys next entry some_at meets first_of met_input are_subtypes find
inputs-of-a-keyed-service = (refl, refl, refl, refl)
