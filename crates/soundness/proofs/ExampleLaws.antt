-- The example's moves, by computation over the definitions.
use Rattle.std.specs.Prelude.{◌≡◌, refl, [], ◌∷◌, ◌++◌}
use Rattle.wire.specs.Wire.{u16_at}
use Rattle.tree_forest.specs.Forest.{find, set, measure, map_forest}
use Rattle.tree_forest.specs.Path.{read_steps, write_steps}
use Rattle.scalar.specs.Value.{is_value}
use Rattle.wire.specs.Wire.{unsigned_of}
use Rattle.integer.specs.Range.{in_width}
use Rattle.scalar.specs.Operator.{add_of}
use Rattle.wire.specs.Wire.{little_endian}
use Rattle.network_syntax.specs.Rows.{row_of, has_row, at_row, entry}
use Rattle.tree.specs.Decode.{head_ok, parse_siblings, parse, decode}
use Rattle.tree.specs.Encode.{root_count, encode}
use Rattle.check_subtyping.specs.Subtype.{are_subtypes}
use Rattle.check_typing.specs.Rules.{permits}
use Rattle.network.specs.Decode.{until_zero, path_of, mark_of, siblings as type_siblings, written_out, expression_from, expression_to, operation_of}
use Rattle.network.specs.Decode.{branches_from, behaviour_from, behaviour_to, behaviour_of, service_of, rows_from, network_of}
use Rattle.network.specs.Kinds.{expression_kind, behaviour_kind, expression_fields, behaviour_fields}
use Rattle.network.specs.Layout.{trailer, start, count as section_count, path_at, type_at, expression_at, behaviour_at, operation_at as operation_place}
use Rattle.network.specs.Layout.{service_at as service_place, data_part}
use Rattle.network.specs.Rows.{type_id, cardinality, type_basic, first_child, child_count, expression_kind_at, kind_at, operation_service, operation_direction}
use Rattle.network.specs.Rows.{operation_two_way, operation_id, operation_location, request_type, reply_type, service_location, starter_row, client_row, service_key}
use Rattle.network_syntax.specs.Meets.{some_at, meets, first_of, met_input}
use Rattle.state.specs.Shape.{fresh_state}
use Rattle.move_rules.specs.Evaluation.{evaluate}
use Rattle.move_rules.specs.Moves.{local_at, receive_at, send_at, move}
use Rattle.state.specs.Queue.{oldest}
use Rattle.move_rules.specs.Readiness.{is_done, offer, reach}
use Rattle.move_rules.specs.Targets.{start_from}
use Rattle.soundness.specs.Runs.{numbers, reached_by}
use Rattle.soundness.specs.Example.{file, without_child, asks, answer_turns, five, outsider_sends}

-- All of it is computed at once: the names below are its parts.
computed :
    (numbers (network_of file) (fresh_state (network_of file)) (asks ++ answer_turns) ≡ 0 ∷ 0 ∷ 0 ∷ 0 ∷ 0 ∷ 0 ∷ 0 ∷ 0 ∷ [])
    × (numbers (network_of file) (fresh_state (network_of file)) (asks ++ five) ≡ 0 ∷ 0 ∷ 0 ∷ 0 ∷ 0 ∷ 0 ∷ 16 ∷ [])
    × (numbers (network_of file) (fresh_state (network_of file)) (asks ++ (outsider_sends without_child ∷ [])) ≡ 0 ∷ 0 ∷ 19 ∷ [])
    × (reached_by (network_of file) (fresh_state (network_of file)) (asks ++ (outsider_sends without_child ∷ []))
    ≡ reached_by (network_of file) (fresh_state (network_of file)) asks)
unfolding u16_at find set measure map_forest read_steps write_steps unsigned_of is_value little_endian in_width add_of row_of has_row at_row head_ok parse_siblings parse
    decode root_count encode are_subtypes permits until_zero path_of mark_of type_siblings written_out expression_from expression_to operation_of branches_from
    behaviour_from behaviour_to behaviour_of service_of rows_from network_of expression_kind behaviour_kind expression_fields behaviour_fields trailer start
    section_count path_at type_at expression_at behaviour_at operation_place service_place data_part type_id cardinality type_basic first_child child_count
    expression_kind_at kind_at operation_service operation_direction operation_two_way operation_id operation_location request_type reply_type service_location
    starter_row client_row service_key entry some_at meets first_of met_input evaluate local_at oldest receive_at send_at move is_done offer reach
    start_from numbers reached_by
computed = (refl, refl, refl, refl)

-- From fresh: assign, send, the body's assign, reply, close, an outsider's message, receive, close.
pub runs : numbers (network_of file) (fresh_state (network_of file)) (asks ++ answer_turns) ≡ 0 ∷ 0 ∷ 0 ∷ 0 ∷ 0 ∷ 0 ∷ 0 ∷ 0 ∷ []
runs = computed.0

-- 01: "four messages queue, the fifth gives 16".
pub fifth-refused : numbers (network_of file) (fresh_state (network_of file)) (asks ++ five) ≡ 0 ∷ 0 ∷ 0 ∷ 0 ∷ 0 ∷ 0 ∷ 16 ∷ []
fifth-refused = computed.1

-- A message without its mandatory child is refused with 19 ..
pub child-missing : numbers (network_of file) (fresh_state (network_of file)) (asks ++ (outsider_sends without_child ∷ [])) ≡ 0 ∷ 0 ∷ 19 ∷ []
child-missing = computed.2

-- .. and changes nothing.
pub child-missing-stays : reached_by (network_of file) (fresh_state (network_of file)) (asks ++ (outsider_sends without_child ∷ []))
    ≡ reached_by (network_of file) (fresh_state (network_of file)) asks
child-missing-stays = computed.3
