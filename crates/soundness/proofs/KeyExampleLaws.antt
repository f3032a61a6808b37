-- The example of a keyed service is accepted, and its messages go by their keys, by computation.
use Rattle.std.specs.Prelude.{ℕ, T, ltb, true, List, [], ◌∷◌, ◌≡◌, refl}
use Rattle.check_files.specs.FileChecker.{check_file}
use Rattle.check_subtyping.specs.Subtype.{are_subtypes}
use Rattle.check_typing.specs.Checker.{check, same_types}
use Rattle.check_typing.specs.Environment.{firm_above_steps, firm_steps, no_mandatory}
use Rattle.check_typing.specs.ExpressionTyping.{expression_type}
use Rattle.check_typing.specs.NetworkChecker.{check_each, check_keys, check_network, check_outputs, check_services, one_type, one_type_each, one_type_with}
use Rattle.check_typing.specs.NetworkRules.{Environments, branches_of, sequences_of, union, union_of}
use Rattle.check_typing.specs.Occurs.{all_roots, all_roots_in, occurs, occurs_in}
use Rattle.check_typing.specs.Result.{next, passed}
use Rattle.check_typing.specs.Rules.{permits}
use Rattle.integer.specs.Range.{in_width}
use Rattle.move_rules.specs.Evaluation.{evaluate}
use Rattle.move_rules.specs.Fresh.{fresh_bytes}
use Rattle.move_rules.specs.Moves.{local_at, move, receive_at, send_at}
use Rattle.move_rules.specs.Readiness.{is_done, offer, reach}
use Rattle.move_rules.specs.Targets.{start_from}
use Rattle.network.specs.Decode.{behaviour_from, behaviour_of, behaviour_to, branches_from, expression_from, expression_to, mark_of, network_of, operation_of}
use Rattle.network.specs.Decode.{path_of, rows_from, service_of, siblings, until_zero, written_out}
use Rattle.network.specs.Form.{form_of}
use Rattle.network.specs.Kinds.{behaviour_fields, behaviour_kind, expression_fields, expression_kind}
use Rattle.network.specs.Layout.{behaviour_at, count, counted, data_part, ends_fit, expression_at, length_fits, operation_at, path_at, sections_follow}
use Rattle.network.specs.Layout.{service_at, start, trailer, type_at}
use Rattle.network.specs.Least.{least, least_over, rule, sum_over}
use Rattle.network.specs.Rows.{basic_fits, behaviour_head, behaviour_row, behaviour_rows, branch_row_rule, branch_rule, cardinality, child_count, child_ids}
use Rattle.network.specs.Rows.{child_rule, children_fit, choice_run, client_fits, client_row, constant_fits, expression_kind_at, expression_row, expression_rows}
use Rattle.network.specs.Rows.{field_fits, fields_rule, first_child, id_before, input_fits, kind_at, later_run, location_fits, location_rule}
use Rattle.network.specs.Rows.{operation_direction, operation_fields, operation_id, operation_links, operation_location, operation_row, operation_rows}
use Rattle.network.specs.Rows.{operation_service, operation_two_way, path_row, path_rows, repeat_rule, reply_fits, reply_type, request_type, root_fits, same_name}
use Rattle.network.specs.Rows.{same_service, service_key, service_location, service_row, service_rows, starter_fits, starter_row, sub_fits, type_basic, type_id}
use Rattle.network.specs.Rows.{type_row, type_rows}
use Rattle.network.specs.Sizes.{depth_within, expression_large, expression_sizes, large, levels_within, nodes_to, rows_all, rows_sum, type_large, type_sizes}
use Rattle.network.specs.Sizes.{type_within}
use Rattle.network.specs.Uses.{broken, field_uses, row_use_rule, row_uses, second_use, service_use_rule, service_uses, used, used_by_rows, uses_row, uses_rows}
use Rattle.network_syntax.specs.Meets.{first_of, meets, met_input, some_at}
use Rattle.network_syntax.specs.Rows.{at_row, entry, has_row, row_of}
use Rattle.network_syntax.specs.Syntax.{mark, none, some}
use Rattle.scalar.specs.Operator.{add_of}
use Rattle.scalar.specs.Value.{is_value}
use Rattle.soundness.specs.Property3.{AcceptedFile, AllGiven, Given}
use Rattle.soundness.specs.Runs.{AllRoomy, numbers, numbers_on_bytes, reached_by}
use Rattle.soundness.proofs.RunsLaws.{fresh-numbers}
use Rattle.state.specs.Bytes.{zeros}
use Rattle.state.specs.Queue.{oldest}
use Rattle.state.specs.Shape.{fresh_state}
use Rattle.tree.specs.Decode.{decode, head_ok, parse, parse_siblings}
use Rattle.tree.specs.Encode.{encode, root_count}
use Rattle.tree_forest.specs.Forest.{end, find, map_forest, measure, node, set}
use Rattle.tree_forest.specs.Path.{read_steps, write_steps}
use Rattle.wire.specs.Wire.{little_endian, u16_at, unsigned_of}
use Rattle.std.proofs.Common.{◌∙◌, arith}
use Rattle.basics.specs.TestLaws.{and_i}
use Rattle.soundness.proofs.ExampleFileLaws.{all_small, small_at}
use Rattle.soundness.specs.KeyExample.{keyed_file, lifts, by_key}

-- Of the starter: 5 is a void with an int child 7. All are mandatory.
abbrev keyed_environments : List Environments
keyed_environments = record { starter = some (node 5 (mark true 6) (node 7 (mark true 1) end end) end); client = none } ∷ []

-- All of it is computed at once: the names below are its parts.
keyed-computed :
    (check_file keyed_file ≡ passed keyed_environments)
    × (numbers (network_of keyed_file) (fresh_state (network_of keyed_file)) by_key ≡ 0 ∷ 15 ∷ 15 ∷ 0 ∷ 0 ∷ [])
unfolding find set measure map_forest read_steps write_steps u16_at unsigned_of is_value are_subtypes same_types check firm_steps firm_above_steps no_mandatory
    expression_type check_each one_type one_type_with one_type_each check_services check_outputs check_keys check_network sequences_of branches_of union union_of
    occurs_in occurs all_roots_in all_roots next permits until_zero path_of mark_of siblings written_out expression_from expression_to operation_of branches_from
    behaviour_from behaviour_to behaviour_of service_of rows_from network_of form_of expression_kind behaviour_kind expression_fields behaviour_fields trailer
    start count path_at type_at expression_at behaviour_at operation_at service_at data_part length_fits sections_follow ends_fit counted least rule least_over
    sum_over entry some_at meets first_of met_input later_run path_row type_id cardinality type_basic first_child child_count children_fit id_before child_rule
    child_ids type_row expression_kind_at kind_at sub_fits input_fits constant_fits field_fits fields_rule basic_fits expression_row behaviour_head branch_rule
    branch_row_rule choice_run behaviour_row operation_service operation_direction operation_two_way operation_id operation_location request_type reply_type
    root_fits location_fits reply_fits same_service same_name repeat_rule operation_fields operation_links operation_row service_location starter_row client_row
    service_key starter_fits client_fits location_rule service_row path_rows type_rows expression_rows behaviour_rows operation_rows service_rows rows_sum rows_all
    levels_within nodes_to type_within depth_within type_large expression_large type_sizes expression_sizes large field_uses row_uses service_uses used_by_rows
    used second_use row_use_rule service_use_rule uses_row uses_rows broken check_file little_endian in_width add_of row_of has_row at_row head_ok parse_siblings
    parse decode root_count encode evaluate local_at oldest receive_at send_at move is_done offer reach start_from numbers reached_by
keyed-computed = (refl, refl)

pub keyed-accepted : AcceptedFile keyed_file
unfolding all_small
keyed-accepted = record { octets = record { small = small_at keyed_file tt }; environments = keyed_environments; passes = keyed-computed.0 }

-- 02: "A message goes only to the live session 1 to 3 with its key, or starts one where no live session has it; another target .. is 15", on bytes.
lifts-given : (x n : ℕ) → T (ltb x 256) → Given (lifts x n)
unfolding all_small
lifts-given x n h =
    record {
      octets = record { small = small_at (lifts x n).bytes (and_i (ltb x 256) true h tt) };
      reply_number = omega arith;
    }

pub by-key-on-bytes : numbers_on_bytes keyed_file (fresh_bytes keyed_file) by_key ≡ 0 ∷ 15 ∷ 15 ∷ 0 ∷ 0 ∷ []
unfolding AllGiven AllRoomy zeros
by-key-on-bytes =
    fresh-numbers keyed_file keyed-accepted by_key
    (lifts-given 1 1 tt, (lifts-given 1 2 tt, (lifts-given 2 1 tt, (lifts-given 2 2 tt, (lifts-given 1 1 tt, tt)))))
    (tt, (tt, (tt, (tt, (tt, tt)))))
    ∙ keyed-computed.1
