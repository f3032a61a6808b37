-- The rules of refusal 4, each with its place: `rule HOLDS PLACE OTHERS`. 01: "A field or link breaks its row's rule, lowest
-- place first (place: the field's first byte; for a run or constant its start, for a type's root the O field, for a child its
-- id; .. a repeated id, the first byte .. of the later row)". "Its start" is the first byte of the field that holds the start.
-- Every rule is judged by itself, whatever else is broken. Here: fields, links and repeated ids; Uses.antt has the use of B rows.
use Rattle.std.specs.Prelude.{ℕ, ◌+◌, ◌-◌, List, Bool, true, false, not, ◌&&◌, ◌||◌, eqb, leb, ltb}
use Rattle.scalar.specs.Basic.{last_basic}
use Rattle.scalar.specs.Value.{is_value}
use Rattle.basics.specs.Choice.{pick}
use Rattle.network.specs.declared.ExpressionKind.{ExpressionKind}
use Rattle.network.specs.declared.BehaviourKind.{BehaviourKind}
use Rattle.network.specs.declared.FieldSort.{FieldSort}
use Rattle.network.specs.declared.FieldSort.TheVariants.{Unruled, Unused, PathRow, EarlierRow, ExpressionRow, OperationRow, LaterRow, InputRow}
use Rattle.network.specs.declared.FieldSort.TheVariants.{BranchRun, BranchCount, ConstantPart}
use Rattle.network.specs.declared.Fields.{Fields}
use Rattle.wire.specs.Wire.{byte_at, u16_at}
use Rattle.network.specs.Least.{rule, least_over}
use Rattle.network.specs.Layout.{path_count, type_count, expression_count, behaviour_count, operation_count, service_count, data_size, data_part}
use Rattle.network.specs.Layout.{path_at, type_at, expression_at, behaviour_at, operation_at, service_at}
use Rattle.network.specs.Kinds.{expression_kind, behaviour_kind, expression_fields, behaviour_fields}
use Rattle.std.specs.Prelude.{Option, None}

-- Row j is one of the n rows from `first` on.
abbrev pub in_run : ℕ → ℕ → ℕ → Bool
in_run first n j = leb first j && ltb j (first + n)

-- The n rows from `first` on are later rows than r, and are in the section, of `size` rows. An empty run's first row is later too.
unfoldable pub later_run : ℕ → ℕ → ℕ → ℕ → Bool
later_run size r first n = ltb r first && leb (first + n) size

-- P: "four u16 ids; the first is not 0; after a 0 only 0". The place is the field that is not 0 after a 0.
abbrev pub path_by : List ℕ → ℕ → Option ℕ
path_by s at =
    rule (not (eqb (u16_at s at) 0)) at
    (rule (not (eqb (u16_at s at) 0) || eqb (u16_at s (at + 2)) 0) (at + 2)
    (rule (not (eqb (u16_at s (at + 2)) 0) || eqb (u16_at s (at + 4)) 0) (at + 4)
    (rule (not (eqb (u16_at s (at + 4)) 0) || eqb (u16_at s (at + 6)) 0) (at + 6) None)))

unfoldable pub path_row : List ℕ → ℕ → Option ℕ
path_row s r = path_by s (path_at s r)

-- T: "id u16, cardinality u8 .., basic u8 .., first child u16, child count u16".
unfoldable pub type_id : List ℕ → ℕ → ℕ
type_id s r = u16_at s (type_at s r)

unfoldable pub cardinality : List ℕ → ℕ → ℕ
cardinality s r = byte_at s (type_at s r + 2)

unfoldable pub type_basic : List ℕ → ℕ → ℕ
type_basic s r = byte_at s (type_at s r + 3)

unfoldable pub first_child : List ℕ → ℕ → ℕ
first_child s r = u16_at s (type_at s r + 4)

unfoldable pub child_count : List ℕ → ℕ → ℕ
child_count s r = u16_at s (type_at s r + 6)

-- T: "Children are consecutive later rows"; with no child the first child is an unused field, so 0.
unfoldable pub children_fit : List ℕ → ℕ → ℕ → ℕ → Bool
children_fit s r first n = pick (eqb n 0) (eqb first 0) (later_run (type_count s) r first n)

-- The id that row j's must pass, as a child in the run from `first` on: that of the child before it, 0 for the first.
unfoldable pub id_before : List ℕ → ℕ → ℕ → ℕ
id_before s first j = pick (eqb j first) 0 (type_id s (j - 1))

-- T: "ids rising strictly and not 0", for every existing row j of the run; the place is the child's id.
unfoldable pub child_rule : List ℕ → ℕ → ℕ → ℕ → Option ℕ
child_rule s first n j = rule (not (in_run first n j) || ltb (id_before s first j) (type_id s j)) (type_at s j) None

unfoldable pub child_ids : List ℕ → ℕ → ℕ → Option ℕ
child_ids s first n = least_over (type_count s) (child_rule s first n)

-- T: "cardinality u8 (0 is [0,1], optional; 1 is [1,1]), basic u8 (0 bool, .., 6 void)"; the children.
unfoldable pub type_row : List ℕ → ℕ → Option ℕ
type_row s r =
    rule (leb (cardinality s r) 1) (type_at s r + 2)
    (rule (leb (type_basic s r) last_basic) (type_at s r + 3)
    (rule (children_fit s r (first_child s r) (child_count s r)) (type_at s r + 4)
    (child_ids s (first_child s r) (child_count s r))))

-- E and B: the fields of the row whose first byte is `at`.
abbrev pub field_a : List ℕ → ℕ → ℕ
field_a s at = u16_at s (at + 2)

abbrev pub field_b : List ℕ → ℕ → ℕ
field_b s at = u16_at s (at + 4)

abbrev pub field_c : List ℕ → ℕ → ℕ
field_c s at = u16_at s (at + 6)

abbrev pub field_d : List ℕ → ℕ → ℕ
field_d s at = u16_at s (at + 8)

-- The kind of E row r, and of B row r.
unfoldable pub expression_kind_at : List ℕ → ℕ → ExpressionKind
expression_kind_at s r = expression_kind (byte_at s (expression_at s r))

unfoldable pub kind_at : List ℕ → ℕ → BehaviourKind
kind_at s r = behaviour_kind (byte_at s (behaviour_at s r))

abbrev pub is_branch_kind : BehaviourKind → Bool
is_branch_kind BehaviourKind.Nil = false
is_branch_kind BehaviourKind.OneWay = false
is_branch_kind BehaviourKind.RequestResponse = false
is_branch_kind BehaviourKind.Notification = false
is_branch_kind BehaviourKind.SolicitResponse = false
is_branch_kind BehaviourKind.If = false
is_branch_kind BehaviourKind.While = false
is_branch_kind BehaviourKind.Sequence = false
is_branch_kind BehaviourKind.Parallel = false
is_branch_kind BehaviourKind.Assign = false
is_branch_kind BehaviourKind.Choice = false
is_branch_kind BehaviourKind.Branch = true
is_branch_kind BehaviourKind.Unknown = false

abbrev pub is_choice_kind : BehaviourKind → Bool
is_choice_kind BehaviourKind.Nil = false
is_choice_kind BehaviourKind.OneWay = false
is_choice_kind BehaviourKind.RequestResponse = false
is_choice_kind BehaviourKind.Notification = false
is_choice_kind BehaviourKind.SolicitResponse = false
is_choice_kind BehaviourKind.If = false
is_choice_kind BehaviourKind.While = false
is_choice_kind BehaviourKind.Sequence = false
is_choice_kind BehaviourKind.Parallel = false
is_choice_kind BehaviourKind.Assign = false
is_choice_kind BehaviourKind.Choice = true
is_choice_kind BehaviourKind.Branch = false
is_choice_kind BehaviourKind.Unknown = false

-- "input row a, of kind 1 or 2".
abbrev pub is_input_kind : BehaviourKind → Bool
is_input_kind BehaviourKind.Nil = false
is_input_kind BehaviourKind.OneWay = true
is_input_kind BehaviourKind.RequestResponse = true
is_input_kind BehaviourKind.Notification = false
is_input_kind BehaviourKind.SolicitResponse = false
is_input_kind BehaviourKind.If = false
is_input_kind BehaviourKind.While = false
is_input_kind BehaviourKind.Sequence = false
is_input_kind BehaviourKind.Parallel = false
is_input_kind BehaviourKind.Assign = false
is_input_kind BehaviourKind.Choice = false
is_input_kind BehaviourKind.Branch = false
is_input_kind BehaviourKind.Unknown = false

-- B: "A sub-behaviour is a later row"; a branch is "found only in a choice".
unfoldable pub sub_fits : List ℕ → ℕ → ℕ → Bool
sub_fits s r v = (ltb r v && ltb v (behaviour_count s)) && not (is_branch_kind (kind_at s v))

-- B: "branch (input row a, of kind 1 or 2, ..)", which is a later row too.
unfoldable pub input_fits : List ℕ → ℕ → ℕ → Bool
input_fits s r v = (ltb r v && ltb v (behaviour_count s)) && is_input_kind (kind_at s v)

-- E: "constant (basic; a start in D, b length)": the part is in D and is a value of the basic type.
unfoldable pub constant_fits : List ℕ → ℕ → ℕ → ℕ → Bool
constant_fits s basic v n = leb (v + n) (data_size s) && is_value basic (data_part s v n)

-- The rule of each sort of field: v is the field in row r, w the field after it, `basic` the row's second byte.
unfoldable pub field_fits : List ℕ → ℕ → ℕ → FieldSort → ℕ → ℕ → Bool
field_fits s r basic Unruled v w = true
field_fits s r basic Unused v w = eqb v 0
field_fits s r basic PathRow v w = ltb v (path_count s)
field_fits s r basic EarlierRow v w = ltb v r
field_fits s r basic ExpressionRow v w = ltb v (expression_count s)
field_fits s r basic OperationRow v w = ltb v (operation_count s)
field_fits s r basic LaterRow v w = sub_fits s r v
field_fits s r basic InputRow v w = input_fits s r v
field_fits s r basic BranchRun v w = later_run (behaviour_count s) r v w
field_fits s r basic BranchCount v w = leb 1 v && leb v 8
field_fits s r basic ConstantPart v w = constant_fits s basic v w

-- The rules of the fields a, b, c of row r, whose first byte is `at`.
unfoldable pub fields_rule : List ℕ → ℕ → ℕ → Fields → ℕ → Option ℕ → Option ℕ
fields_rule s r basic q at others =
    rule (field_fits s r basic q.a (field_a s at) (field_b s at)) (at + 2)
    (rule (field_fits s r basic q.b (field_b s at) (field_c s at)) (at + 4)
    (rule (field_fits s r basic q.c (field_c s at) 0) (at + 6) others))

-- E: basic is 0 to 6 for a constant, else unused; of a row of unknown kind it is not judged.
unfoldable pub basic_fits : ExpressionKind → ℕ → Bool
basic_fits ExpressionKind.Constant basic = leb basic last_basic
basic_fits ExpressionKind.ValueAt basic = eqb basic 0
basic_fits ExpressionKind.Presence basic = eqb basic 0
basic_fits ExpressionKind.Not basic = eqb basic 0
basic_fits ExpressionKind.Negate basic = eqb basic 0
basic_fits ExpressionKind.Add basic = eqb basic 0
basic_fits ExpressionKind.Subtract basic = eqb basic 0
basic_fits ExpressionKind.Less basic = eqb basic 0
basic_fits ExpressionKind.Equal basic = eqb basic 0
basic_fits ExpressionKind.And basic = eqb basic 0
basic_fits ExpressionKind.Unknown basic = true

-- E: kind 0 to 9, basic, a, b, c.
abbrev pub expression_by : List ℕ → ℕ → ℕ → ExpressionKind → Option ℕ
expression_by s r at k =
    rule (leb (byte_at s at) 9) at
    (rule (basic_fits k (byte_at s (at + 1))) (at + 1)
    (fields_rule s r (byte_at s (at + 1)) (expression_fields k) at None))

unfoldable pub expression_row : List ℕ → ℕ → Option ℕ
expression_row s r = expression_by s r (expression_at s r) (expression_kind_at s r)

-- B: "kind u8, 0": 0 to 11, and the unused byte.
unfoldable pub behaviour_head : List ℕ → ℕ → Option ℕ → Option ℕ
behaviour_head s at others = rule (leb (byte_at s at) 11) at (rule (eqb (byte_at s (at + 1)) 0) (at + 1) others)

-- B: the fields, with d.
abbrev pub behaviour_rule : List ℕ → ℕ → ℕ → Fields → Option ℕ → Option ℕ
behaviour_rule s r at q others =
    behaviour_head s at (fields_rule s r 0 q at (rule (field_fits s r 0 q.d (field_d s at) 0) (at + 8) others))

-- B: every existing row of a choice's run is a branch; the place is the run's start.
unfoldable pub branch_rule : List ℕ → ℕ → ℕ → Option ℕ
branch_rule s at j = rule (not (in_run (field_a s at) (field_b s at) j) || is_branch_kind (kind_at s j)) (at + 2) None

unfoldable pub branch_row_rule : List ℕ → ℕ → Option ℕ
branch_row_rule s at = least_over (behaviour_count s) (branch_rule s at)

unfoldable pub choice_run : List ℕ → ℕ → Option ℕ
choice_run s r = pick (is_choice_kind (kind_at s r)) (branch_row_rule s (behaviour_at s r)) None

unfoldable pub behaviour_row : List ℕ → ℕ → Option ℕ
behaviour_row s r = behaviour_rule s r (behaviour_at s r) (behaviour_fields (kind_at s r)) (choice_run s r)

-- O: "service row u8, direction u8 (0 in, 1 out), two-way u8 (0, 1), 0, id u16, location u16 .., request type u16, reply type u16".
unfoldable pub operation_service : List ℕ → ℕ → ℕ
operation_service s r = byte_at s (operation_at s r)

unfoldable pub operation_direction : List ℕ → ℕ → ℕ
operation_direction s r = byte_at s (operation_at s r + 1)

unfoldable pub operation_two_way : List ℕ → ℕ → ℕ
operation_two_way s r = byte_at s (operation_at s r + 2)

unfoldable pub operation_id : List ℕ → ℕ → ℕ
operation_id s r = u16_at s (operation_at s r + 4)

unfoldable pub operation_location : List ℕ → ℕ → ℕ
operation_location s r = u16_at s (operation_at s r + 6)

unfoldable pub request_type : List ℕ → ℕ → ℕ
request_type s r = u16_at s (operation_at s r + 8)

unfoldable pub reply_type : List ℕ → ℕ → ℕ
reply_type s r = u16_at s (operation_at s r + 10)

-- T: "A message type's root has id 0, cardinality 1"; it is an existing row.
unfoldable pub root_fits : List ℕ → ℕ → Bool
root_fits s t = ltb t (type_count s) && (eqb (type_id s t) 0 && eqb (cardinality s t) 1)

-- O: "location u16 (0 for in)"; "Ids and output locations are not 0". A direction out of range has no rule here.
unfoldable pub location_fits : ℕ → ℕ → Bool
location_fits direction location =
    pick (eqb direction 0) (eqb location 0) (pick (eqb direction 1) (not (eqb location 0)) true)

-- O: "reply type u16 (0 if one-way)". A two-way byte out of range has no rule here.
unfoldable pub reply_fits : List ℕ → ℕ → ℕ → Bool
reply_fits s two_way t = pick (eqb two_way 0) (eqb t 0) (pick (eqb two_way 1) (root_fits s t) true)

-- O: "Input ids are unique in a service; so are pairs of id and location for outputs". Do rows r and q have one name?
unfoldable pub same_service : List ℕ → ℕ → ℕ → Bool
same_service s r q =
    eqb (operation_service s r) (operation_service s q) && eqb (operation_direction s r) (operation_direction s q)

unfoldable pub same_name : List ℕ → ℕ → ℕ → Bool
same_name s r q =
    eqb (operation_id s r) (operation_id s q) &&
    (eqb (operation_direction s r) 0
    || (eqb (operation_direction s r) 1 && eqb (operation_location s r) (operation_location s q)))

-- O: a repeated id is at the first byte of the later row, here r.
unfoldable pub repeat_rule : List ℕ → ℕ → ℕ → Option ℕ
repeat_rule s r q = rule (not (same_service s r q && same_name s r q)) (operation_at s r) None

unfoldable pub operation_fields : List ℕ → ℕ → Option ℕ → Option ℕ
operation_fields s r others =
    rule (ltb (operation_service s r) (service_count s)) (operation_at s r)
    (rule (leb (operation_direction s r) 1) (operation_at s r + 1)
    (rule (leb (operation_two_way s r) 1) (operation_at s r + 2)
    (rule (eqb (byte_at s (operation_at s r + 3)) 0) (operation_at s r + 3)
    (rule (not (eqb (operation_id s r) 0)) (operation_at s r + 4) others))))

unfoldable pub operation_links : List ℕ → ℕ → Option ℕ → Option ℕ
operation_links s r others =
    rule (location_fits (operation_direction s r) (operation_location s r)) (operation_at s r + 6)
    (rule (root_fits s (request_type s r)) (operation_at s r + 8)
    (rule (reply_fits s (operation_two_way s r) (reply_type s r)) (operation_at s r + 10) others))

unfoldable pub operation_row : List ℕ → ℕ → Option ℕ
operation_row s r = operation_fields s r (operation_links s r (least_over r (repeat_rule s r)))

-- S: "location u16, unique and not 0; starter row (a choice), client row, 65535 for none", then the key id.
unfoldable pub service_location : List ℕ → ℕ → ℕ
service_location s r = u16_at s (service_at s r)

unfoldable pub starter_row : List ℕ → ℕ → ℕ
starter_row s r = u16_at s (service_at s r + 2)

unfoldable pub client_row : List ℕ → ℕ → ℕ
client_row s r = u16_at s (service_at s r + 4)

-- 02: "The last field of a service row becomes a key id, 0 for none." Any number is one.
unfoldable pub service_key : List ℕ → ℕ → ℕ
service_key s r = u16_at s (service_at s r + 6)

abbrev pub no_row : ℕ
no_row = 65535

unfoldable pub starter_fits : List ℕ → ℕ → Bool
starter_fits s v = eqb v no_row || (ltb v (behaviour_count s) && is_choice_kind (kind_at s v))

-- A client may be any behaviour that is no branch.
unfoldable pub client_fits : List ℕ → ℕ → Bool
client_fits s v = eqb v no_row || (ltb v (behaviour_count s) && not (is_branch_kind (kind_at s v)))

-- S: a repeated location is at the first byte of the later row, here r.
unfoldable pub location_rule : List ℕ → ℕ → ℕ → Option ℕ
location_rule s r q = rule (not (eqb (service_location s q) (service_location s r))) (service_at s r) None

unfoldable pub service_row : List ℕ → ℕ → Option ℕ
service_row s r =
    rule (not (eqb (service_location s r) 0)) (service_at s r)
    (rule (starter_fits s (starter_row s r)) (service_at s r + 2)
    (rule (client_fits s (client_row s r)) (service_at s r + 4) (least_over r (location_rule s r))))

-- The lowest place in each section.
unfoldable pub path_rows : List ℕ → Option ℕ
path_rows s = least_over (path_count s) (path_row s)

unfoldable pub type_rows : List ℕ → Option ℕ
type_rows s = least_over (type_count s) (type_row s)

unfoldable pub expression_rows : List ℕ → Option ℕ
expression_rows s = least_over (expression_count s) (expression_row s)

unfoldable pub behaviour_rows : List ℕ → Option ℕ
behaviour_rows s = least_over (behaviour_count s) (behaviour_row s)

unfoldable pub operation_rows : List ℕ → Option ℕ
operation_rows s = least_over (operation_count s) (operation_row s)

unfoldable pub service_rows : List ℕ → Option ℕ
service_rows s = least_over (service_count s) (service_row s)
