-- The results outside their width are refused with 22 and change nothing, by computation; the file is accepted.
use Rattle.std.specs.Prelude.{◌≡◌, refl, true, List, [], ◌∷◌}
use Rattle.std.proofs.Common.{ap, ◌∙◌}
use Rattle.network_syntax.specs.Syntax.{mark, none, some}
use Rattle.tree_forest.specs.Forest.{end, node, find, set, measure}
use Rattle.check_typing.specs.NetworkRules.{Environments}
use Rattle.check_typing.specs.Result.{passed, next}
use Rattle.state.specs.Shape.{fresh_state}
use Rattle.state.specs.Bytes.{zeros, state_bytes}
use Rattle.move_rules.specs.Moves.{local, local_at, move}
use Rattle.move_rules.specs.Fresh.{fresh_bytes}
use Rattle.tree_forest.specs.Path.{read_steps, write_steps}
use Rattle.wire.specs.Wire.{u16_at, unsigned_of}
use Rattle.scalar.specs.Value.{is_value}
use Rattle.check_typing.specs.Checker.{check}
use Rattle.check_typing.specs.Environment.{firm_above_steps}
use Rattle.check_typing.specs.ExpressionTyping.{expression_type}
use Rattle.check_typing.specs.NetworkChecker.{check_services, check_outputs, check_keys, check_network}
use Rattle.check_typing.specs.Occurs.{occurs_in, occurs, all_roots_in, all_roots}
use Rattle.network.specs.Decode.{until_zero, path_of, expression_from, expression_to, behaviour_from, behaviour_to, behaviour_of, service_of, rows_from}
use Rattle.network.specs.Decode.{network_of}
use Rattle.network.specs.Form.{form_of}
use Rattle.network.specs.Kinds.{expression_kind, behaviour_kind, expression_fields, behaviour_fields}
use Rattle.network.specs.Layout.{trailer, start, count, path_at, type_at, expression_at, behaviour_at, operation_at, service_at, data_part, length_fits}
use Rattle.network.specs.Layout.{sections_follow, ends_fit, counted}
use Rattle.network.specs.Least.{least, rule, least_over, sum_over}
use Rattle.network_syntax.specs.Rows.{entry}
use Rattle.network.specs.Rows.{path_row, expression_kind_at, kind_at, sub_fits, constant_fits, field_fits, fields_rule, basic_fits, expression_row}
use Rattle.network.specs.Rows.{behaviour_head, choice_run, behaviour_row, service_location, starter_row, client_row, service_key, starter_fits, client_fits, service_row}
use Rattle.network.specs.Rows.{path_rows, type_rows, expression_rows, behaviour_rows, operation_rows, service_rows}
use Rattle.network.specs.Sizes.{depth_within, expression_large, type_sizes, expression_sizes, large}
use Rattle.network.specs.Uses.{field_uses, row_uses, service_uses, used_by_rows, used, second_use, row_use_rule, service_use_rule, uses_row, uses_rows, broken}
use Rattle.check_files.specs.FileChecker.{check_file}
use Rattle.integer.specs.Range.{in_width}
use Rattle.scalar.specs.Operator.{add_of, negate_of}
use Rattle.move_rules.specs.Evaluation.{evaluate}
use Rattle.move_rules.specs.Readiness.{reach}
use Rattle.soundness.specs.Property3.{Turn, AllGiven, AcceptedFile, after}
use Rattle.soundness.specs.Runs.{numbers_on_bytes, AllRoomy, numbers, reached_by}
use Rattle.soundness.proofs.RunsLaws.{fresh-numbers, fresh-after}
use Rattle.soundness.proofs.ExampleFileLaws.{all_small, small_at, given_inside}
use Rattle.soundness.specs.RangeExample.{range_file, assigns_sum, assigns_opposite}

-- Of the client: 5 and 6 are mandatory ints.
abbrev range_environments : List Environments
range_environments = record { starter = none; client = some (node 5 (mark true 1) end (node 6 (mark true 1) end end)) } ∷ []

-- All of it is computed at once: the names below are its parts.
range-computed :
    (check_file range_file ≡ passed range_environments)
    × (numbers (network_of range_file) (fresh_state (network_of range_file)) assigns_sum ≡ 22 ∷ [])
    × (reached_by (network_of range_file) (fresh_state (network_of range_file)) assigns_sum ≡ fresh_state (network_of range_file))
    × (numbers (network_of range_file) (fresh_state (network_of range_file)) assigns_opposite ≡ 22 ∷ [])
    × (reached_by (network_of range_file) (fresh_state (network_of range_file)) assigns_opposite ≡ fresh_state (network_of range_file))
unfolding find set measure read_steps write_steps u16_at unsigned_of is_value check firm_above_steps expression_type check_services check_outputs check_keys check_network
    occurs_in occurs all_roots_in all_roots next until_zero path_of expression_from expression_to behaviour_from behaviour_to behaviour_of service_of rows_from
    network_of form_of expression_kind behaviour_kind expression_fields behaviour_fields trailer start count path_at type_at expression_at behaviour_at
    operation_at service_at data_part length_fits sections_follow ends_fit counted least rule least_over sum_over entry path_row expression_kind_at kind_at
    sub_fits constant_fits field_fits fields_rule basic_fits expression_row behaviour_head choice_run behaviour_row service_location starter_row client_row service_key
    starter_fits client_fits service_row path_rows type_rows expression_rows behaviour_rows operation_rows service_rows depth_within expression_large type_sizes
    expression_sizes large field_uses row_uses service_uses used_by_rows used second_use row_use_rule service_use_rule uses_row uses_rows broken check_file in_width
    add_of evaluate local_at move reach numbers reached_by negate_of
range-computed = (refl, refl, refl, refl, refl)

pub range-accepted : AcceptedFile range_file
unfolding all_small
range-accepted = record { octets = record { small = small_at range_file tt }; environments = range_environments; passes = range-computed.0 }

-- 02: "where the exact result is outside its width, the move is refused": 2147483647 + 1 ..
pub sum-refused : numbers (network_of range_file) (fresh_state (network_of range_file)) assigns_sum ≡ 22 ∷ []
sum-refused = range-computed.1

pub sum-stays : reached_by (network_of range_file) (fresh_state (network_of range_file)) assigns_sum ≡ fresh_state (network_of range_file)
sum-stays = range-computed.2

-- .. and the opposite of -2147483648.
pub opposite-refused : numbers (network_of range_file) (fresh_state (network_of range_file)) assigns_opposite ≡ 22 ∷ []
opposite-refused = range-computed.3

pub opposite-stays : reached_by (network_of range_file) (fresh_state (network_of range_file)) assigns_opposite ≡ fresh_state (network_of range_file)
opposite-stays = range-computed.4

-- The same on bytes: from the file's fresh bytes each is refused, and the bytes stay.
abbrev StaysRefused : List Turn → Type 0
StaysRefused l = (numbers_on_bytes range_file (fresh_bytes range_file) l ≡ 22 ∷ []) × (after range_file (fresh_bytes range_file) l ≡ fresh_bytes range_file)

pub sum-on-bytes : StaysRefused assigns_sum
unfolding AllGiven AllRoomy zeros
sum-on-bytes =
    let g : AllGiven assigns_sum = (given_inside (local 0 0 1) tt, tt) in (
      fresh-numbers range_file range-accepted assigns_sum g (tt, tt) ∙ sum-refused,
      fresh-after range_file range-accepted assigns_sum g (tt, tt) ∙ ap state_bytes sum-stays,
    )

pub opposite-on-bytes : StaysRefused assigns_opposite
unfolding AllGiven AllRoomy zeros
opposite-on-bytes =
    let g : AllGiven assigns_opposite = (given_inside (local 0 0 2) tt, tt) in (
      fresh-numbers range_file range-accepted assigns_opposite g (tt, tt) ∙ opposite-refused,
      fresh-after range_file range-accepted assigns_opposite g (tt, tt) ∙ ap state_bytes opposite-stays,
    )
