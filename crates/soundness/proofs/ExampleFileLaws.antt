-- The example's file is accepted, so property 3 speaks of its moves.
use Rattle.std.specs.Prelude.{◌≡◌, refl, Bool, true, ◌&&◌, List, [], ◌∷◌, ◌++◌, ℕ, zero, suc, ◌<◌, T, ltb, get_or}
use Rattle.std.proofs.Common.{◌∙◌, arith, ltb→lt}
use Rattle.basics.specs.TestLaws.{and_l, and_r}
use Rattle.tree_forest.specs.Forest.{end, node, find, set, measure, map_forest}
use Rattle.tree_forest.specs.Path.{read_steps, write_steps}
use Rattle.wire.specs.Wire.{u16_at}
use Rattle.scalar.specs.Value.{is_value}
use Rattle.wire.specs.Wire.{unsigned_of}
use Rattle.network_syntax.specs.Syntax.{mark, none, some}
use Rattle.check_subtyping.specs.Subtype.{are_subtypes}
use Rattle.check_typing.specs.Checker.{same_types, check}
use Rattle.check_typing.specs.Environment.{firm_steps, firm_above_steps, no_mandatory}
use Rattle.check_typing.specs.ExpressionTyping.{expression_type}
use Rattle.check_typing.specs.NetworkChecker.{check_each, one_type, one_type_with, one_type_each, check_services, check_outputs, check_keys, check_network}
use Rattle.check_typing.specs.NetworkRules.{Environments, sequences_of, branches_of, union, union_of}
use Rattle.check_typing.specs.Occurs.{occurs_in, occurs, all_roots_in, all_roots}
use Rattle.check_typing.specs.Result.{passed, next}
use Rattle.check_typing.specs.Rules.{permits}
use Rattle.network.specs.Decode.{until_zero, path_of, mark_of, siblings, written_out, expression_from, expression_to, operation_of, branches_from}
use Rattle.network.specs.Decode.{behaviour_from, behaviour_to, behaviour_of, service_of, rows_from, network_of}
use Rattle.network.specs.Form.{form_of}
use Rattle.network.specs.Kinds.{expression_kind, behaviour_kind, expression_fields, behaviour_fields}
use Rattle.network.specs.Layout.{trailer, start, count, path_at, type_at, expression_at, behaviour_at, operation_at, service_at, data_part, length_fits}
use Rattle.network.specs.Layout.{sections_follow, ends_fit, counted}
use Rattle.network.specs.Least.{least, rule, least_over, sum_over}
use Rattle.network_syntax.specs.Meets.{some_at, meets, first_of, met_input}
use Rattle.network_syntax.specs.Rows.{entry}
use Rattle.network.specs.Rows.{later_run, path_row, type_id, cardinality, type_basic, first_child, child_count, children_fit, id_before, child_rule, child_ids}
use Rattle.network.specs.Rows.{type_row, expression_kind_at, kind_at, sub_fits, input_fits, constant_fits, field_fits, fields_rule, basic_fits, expression_row}
use Rattle.network.specs.Rows.{behaviour_head, branch_rule, branch_row_rule, choice_run, behaviour_row, operation_service, operation_direction, operation_two_way}
use Rattle.network.specs.Rows.{operation_id, operation_location, request_type, reply_type, root_fits, location_fits, reply_fits, same_service, same_name}
use Rattle.network.specs.Rows.{repeat_rule, operation_fields, operation_links, operation_row, service_location, starter_row, client_row, service_key, starter_fits}
use Rattle.network.specs.Rows.{client_fits, location_rule, service_row, path_rows, type_rows, expression_rows, behaviour_rows, operation_rows, service_rows}
use Rattle.network.specs.Sizes.{rows_sum, rows_all, levels_within, nodes_to, type_within, depth_within, type_large, expression_large, type_sizes}
use Rattle.network.specs.Sizes.{expression_sizes, large}
use Rattle.network.specs.Uses.{field_uses, row_uses, service_uses, used_by_rows, used, second_use, row_use_rule, service_use_rule, uses_row, uses_rows, broken}
use Rattle.check_files.specs.FileChecker.{check_file}
use Rattle.tree.specs.Encode.{Octets}
use Rattle.move_rules.specs.Moves.{Move, local, receive, send, reply, close}
use Rattle.move_rules.specs.Fresh.{fresh_bytes}
use Rattle.soundness.specs.Property3.{Turn, Given, AllGiven, AcceptedFile, Property3, NumberFits}
use Rattle.soundness.proofs.Property3Laws.{property3}
use Rattle.state.specs.Bytes.{zeros}
use Rattle.soundness.specs.Runs.{numbers_on_bytes, AllRoomy}
use Rattle.soundness.proofs.RunsLaws.{fresh-numbers}
use Rattle.soundness.specs.Example.{file, inside, with_child, without_child, outsider_sends, asks, answer_turns}
use Rattle.soundness.proofs.ExampleLaws.{runs, child-missing}

-- Every number of the list is below 256.
unfoldable pub all_small : List ℕ → Bool
all_small [] = true
all_small (b ∷ l) = ltb b 256 && all_small l

pub small_at : (l : List ℕ) → T (all_small l) → (k : ℕ) → get_or l k 0 < 256
unfolding all_small
small_at [] t k = omega arith
small_at (b ∷ l) t zero = ltb→lt b 256 (and_l (ltb b 256) (all_small l) t)
small_at (b ∷ l) t (suc k) = small_at l (and_r (ltb b 256) (all_small l) t) k

file-octets : Octets file
unfolding all_small
file-octets = record { small = small_at file tt }

-- Of the client: 5 and 6 are ints. Of the starter: 5 is an int, 9 a void with an int child 1. All are mandatory.
abbrev environments : List Environments
environments =
    record { starter = none; client = some (node 5 (mark true 1) end (node 6 (mark true 1) end end)) } ∷
    record { starter = some (node 5 (mark true 1) end (node 9 (mark true 6) (node 1 (mark true 1) end end) end)); client = none } ∷ []

pub file-passes : check_file file ≡ passed environments
unfolding find set measure map_forest read_steps write_steps u16_at unsigned_of is_value are_subtypes same_types check firm_steps firm_above_steps
    no_mandatory expression_type
    check_each one_type one_type_with one_type_each check_services check_outputs check_keys check_network sequences_of branches_of union union_of occurs_in occurs
    all_roots_in all_roots next permits until_zero path_of mark_of siblings written_out expression_from expression_to operation_of branches_from behaviour_from
    behaviour_to behaviour_of service_of rows_from network_of form_of expression_kind behaviour_kind expression_fields behaviour_fields trailer start count
    path_at type_at expression_at behaviour_at operation_at service_at data_part length_fits sections_follow ends_fit counted least rule least_over sum_over entry
    some_at meets first_of met_input later_run path_row type_id cardinality type_basic first_child child_count children_fit id_before child_rule child_ids type_row
    expression_kind_at kind_at sub_fits input_fits constant_fits field_fits fields_rule basic_fits expression_row behaviour_head branch_rule branch_row_rule choice_run
    behaviour_row operation_service operation_direction operation_two_way operation_id operation_location request_type reply_type root_fits location_fits
    reply_fits same_service same_name repeat_rule operation_fields operation_links operation_row service_location starter_row client_row service_key starter_fits client_fits
    location_rule service_row path_rows type_rows expression_rows behaviour_rows operation_rows service_rows rows_sum rows_all levels_within nodes_to type_within
    depth_within type_large expression_large type_sizes expression_sizes large field_uses row_uses service_uses used_by_rows used second_use row_use_rule
    service_use_rule uses_row uses_rows broken check_file
file-passes = refl

pub accepted-file : AcceptedFile file
accepted-file = record { octets = file-octets; environments = environments; passes = file-passes }

-- Property 3 of the example.
pub file-property3 : (l : List Turn) → AllGiven l → Property3 file l
file-property3 l g = property3 file accepted-file l g

-- The example's runs on bytes ------------------------------------------------------------------------------------------------------------

pub given_inside : (m : Move) → NumberFits m → Given (inside m)
given_inside m k = record { octets = record { small = λ i. omega arith }; reply_number = k }

given-outside : (bytes : List ℕ) → T (all_small bytes) → Given (outsider_sends bytes)
given-outside bytes t = record { octets = record { small = small_at bytes t }; reply_number = omega arith }

asks-given : (l : List Turn) → AllGiven l → AllGiven (asks ++ l)
unfolding AllGiven
asks-given l g = (given_inside (local 0 0 1) tt, (given_inside (send 0 0 2 1) tt, g))

asks-roomy : (l : List Turn) → AllRoomy l → AllRoomy (asks ++ l)
unfolding AllRoomy zeros
asks-roomy l r = (tt, (tt, r))

answers-given : AllGiven answer_turns
unfolding AllGiven all_small
answers-given = (
  given_inside (local 1 1 6) tt,
  (
    given_inside (reply 1 1 5) tt,
    (
      given_inside (close 0 0) tt,
      (
        given-outside with_child tt,
        (
          given_inside (receive 1 1 7) tt,
          (given_inside (close 1 1) tt, tt),
        ),
      ),
    ),
  ),
)

answers-roomy : AllRoomy answer_turns
unfolding AllRoomy zeros
answers-roomy = (tt, (tt, (tt, (tt, (tt, (tt, tt))))))

-- From the file's fresh bytes to the last close.
pub runs-on-bytes : numbers_on_bytes file (fresh_bytes file) (asks ++ answer_turns) ≡ 0 ∷ 0 ∷ 0 ∷ 0 ∷ 0 ∷ 0 ∷ 0 ∷ 0 ∷ []
runs-on-bytes = fresh-numbers file accepted-file (asks ++ answer_turns) (asks-given answer_turns answers-given) (asks-roomy answer_turns answers-roomy) ∙ runs

-- The message without its mandatory child.
pub child-missing-on-bytes : numbers_on_bytes file (fresh_bytes file) (asks ++ (outsider_sends without_child ∷ [])) ≡ 0 ∷ 0 ∷ 19 ∷ []
unfolding AllGiven AllRoomy zeros all_small
child-missing-on-bytes =
    fresh-numbers file accepted-file (asks ++ (outsider_sends without_child ∷ []))
    (asks-given (outsider_sends without_child ∷ []) (given-outside without_child tt, tt))
    (asks-roomy (outsider_sends without_child ∷ []) (tt, tt))
    ∙ child-missing
