-- Rows become syntax: paths, type trees, expressions, operations, behaviours, services, the network. Every definition is total:
-- where refusals 2 to 5 do not apply it means what 01's "Network file" says, elsewhere its value is never looked at.
use Rattle.std.specs.Prelude.{ℕ, zero, suc, ◌+◌, List, [], ◌∷◌, true, eqb}
use Rattle.tree_forest.specs.Forest.{end, Tree, tree, node_of}
use Rattle.tree_forest.specs.Path.{Path, path}
use Rattle.scalar.specs.Basic.{void}
use Rattle.scalar.specs.Value.{value}
use Rattle.basics.specs.Choice.{pick}
use Rattle.network_syntax.specs.Syntax.{Mark, mark, Types, MessageType, logical_not, negate, add, subtract, less, equal, logical_and, Expression}
use Rattle.network_syntax.specs.Syntax.{constant, value_at, presence, unary, binary, input, output, Operation, Behaviour, nil, one_way}
use Rattle.network_syntax.specs.Syntax.{request_response, notification, solicit_response, if_then_else, while_do, sequence, parallel, assign, choice}
use Rattle.network_syntax.specs.Syntax.{Branches, last_branch, branch, Optional, none, some, Service, Network}
use Rattle.network.specs.declared.ExpressionKind.{ExpressionKind}
use Rattle.network.specs.declared.BehaviourKind.{BehaviourKind}
use Rattle.wire.specs.Wire.{byte_at, u16_at}
use Rattle.network.specs.Layout.{behaviour_count, operation_count, service_count, data_part, path_at, expression_at, behaviour_at}
use Rattle.network.specs.Rows.{type_id, cardinality, type_basic, first_child, child_count, field_a, field_b, field_c, field_d, expression_kind_at, kind_at}
use Rattle.network.specs.Rows.{operation_service, operation_direction, operation_two_way, operation_id, operation_location, request_type, reply_type}
use Rattle.network.specs.Rows.{service_location, starter_row, client_row, service_key, no_row}
use Rattle.network.specs.Sizes.{type_levels, expression_levels}

-- The ids before the first 0.
unfoldable pub until_zero : List ℕ → List ℕ
until_zero [] = []
until_zero (i ∷ is) = pick (eqb i 0) [] (i ∷ until_zero is)

-- P: "four u16 ids; the first is not 0; after a 0 only 0".
unfoldable pub path_of : List ℕ → ℕ → Path
path_of s r =
    path (u16_at s (path_at s r))
    (until_zero (u16_at s (path_at s r + 2) ∷ u16_at s (path_at s r + 4) ∷ u16_at s (path_at s r + 6) ∷ []))

-- T: "cardinality u8 (0 is [0,1], optional; 1 is [1,1]), basic u8".
unfoldable pub mark_of : List ℕ → ℕ → Mark
mark_of s r = mark (eqb (cardinality s r) 1) (type_basic s r)

-- The n rows from `first` on as siblings, each with its id and the tree that f gives.
unfoldable pub siblings : List ℕ → (ℕ → Tree Mark) → ℕ → ℕ → Types
siblings s f first zero = end
siblings s f first (suc n) = node_of (type_id s first) (f first) (siblings s f (first + 1) n)

-- T row r written out, with the levels below it down to the d-th.
unfoldable pub written_out : List ℕ → ℕ → ℕ → Tree Mark
written_out s zero r = tree (mark_of s r) end
written_out s (suc d) r = tree (mark_of s r) (siblings s (written_out s d) (first_child s r) (child_count s r))

-- T row r as a tree. "Every T row written out has at most 16 nodes and 4 levels", so nothing is left out.
abbrev pub type_of : List ℕ → ℕ → Tree Mark
type_of s r = written_out s type_levels r

-- E row r, its operands given by `operand`: "Kinds: 0 constant (basic; a start in D, b length), 1 path a, 2 is path a present,
-- 3 not, 4 negate, 5 add, 6 subtract, 7 less, 8 equal, 9 and. Operands a, b are earlier rows."
unfoldable pub expression_from : List ℕ → (ℕ → Expression) → ℕ → ExpressionKind → Expression
expression_from s operand at ExpressionKind.Constant =
    constant (value (byte_at s (at + 1)) (data_part s (field_a s at) (field_b s at)))
expression_from s operand at ExpressionKind.ValueAt = value_at (path_of s (field_a s at))
expression_from s operand at ExpressionKind.Presence = presence (path_of s (field_a s at))
expression_from s operand at ExpressionKind.Not = unary logical_not (operand (field_a s at))
expression_from s operand at ExpressionKind.Negate = unary negate (operand (field_a s at))
expression_from s operand at ExpressionKind.Add = binary add (operand (field_a s at)) (operand (field_b s at))
expression_from s operand at ExpressionKind.Subtract = binary subtract (operand (field_a s at)) (operand (field_b s at))
expression_from s operand at ExpressionKind.Less = binary less (operand (field_a s at)) (operand (field_b s at))
expression_from s operand at ExpressionKind.Equal = binary equal (operand (field_a s at)) (operand (field_b s at))
expression_from s operand at ExpressionKind.And = binary logical_and (operand (field_a s at)) (operand (field_b s at))
expression_from s operand at ExpressionKind.Unknown = constant (value void [])

-- E row r to d levels; what is below them is not looked at.
unfoldable pub expression_to : List ℕ → ℕ → ℕ → Expression
expression_to s zero r = constant (value void [])
expression_to s (suc d) r = expression_from s (expression_to s d) (expression_at s r) (expression_kind_at s r)

-- E row r: "every E row 8 levels".
abbrev pub expression_of : List ℕ → ℕ → Expression
expression_of s r = expression_to s expression_levels r

-- The reply type of a one-way operation, which is never looked at.
abbrev pub no_reply : MessageType
no_reply = tree (mark true void) end

-- O: "service row u8, direction u8 (0 in, 1 out), two-way u8 (0, 1), 0, id u16, location u16 .., request type u16, reply type u16 ..".
unfoldable pub operation_of : List ℕ → ℕ → Operation
operation_of s r = record {
  row = r;
  service = operation_service s r;
  direction = pick (eqb (operation_direction s r) 0) input output;
  two_way = eqb (operation_two_way s r) 1;
  id = operation_id s r;
  location = operation_location s r;
  request = type_of s (request_type s r);
  reply = pick (eqb (operation_two_way s r) 1) (type_of s (reply_type s r)) no_reply;
}

-- The n branches from row r on, one after another: "branch (input row a, of kind 1 or 2, then b, as in a sequence)". A choice has 1 to 8.
unfoldable pub branches_from : List ℕ → (ℕ → Behaviour) → ℕ → ℕ → Branches
branches_from s sub r zero = last_branch r (nil r) (nil r)
branches_from s sub r (suc zero) = last_branch r (sub (field_a s (behaviour_at s r))) (sub (field_b s (behaviour_at s r)))
branches_from s sub r (suc (suc n)) =
    branch r (sub (field_a s (behaviour_at s r))) (sub (field_b s (behaviour_at s r))) (branches_from s sub (suc r) (suc n))

-- B row r, whose first byte is `at`, its sub-behaviours given by `sub`: "0 nil; 1 one-way (operation a, path b); 2 request-response (operation a,
-- into b, reply path c, body d); 3 notification (operation a, expression b); 4 solicit-response (a, b, into c); 5 if
-- (expression a, then b, else c); 6 while (a, body b); 7 sequence a, b; 8 parallel a, b; 9 assign (path a, expression b);
-- 10 choice (first row a, count b of 1 to 8); 11 branch .., found only in a choice."
unfoldable pub behaviour_from : List ℕ → (ℕ → Behaviour) → ℕ → ℕ → BehaviourKind → Behaviour
behaviour_from s sub r at BehaviourKind.Nil = nil r
behaviour_from s sub r at BehaviourKind.OneWay = one_way r (operation_of s (field_a s at)) (path_of s (field_b s at))
behaviour_from s sub r at BehaviourKind.RequestResponse =
    request_response r (operation_of s (field_a s at))
    (path_of s (field_b s at)) (path_of s (field_c s at)) (sub (field_d s at))
behaviour_from s sub r at BehaviourKind.Notification =
    notification r (operation_of s (field_a s at)) (expression_of s (field_b s at))
behaviour_from s sub r at BehaviourKind.SolicitResponse =
    solicit_response r (operation_of s (field_a s at)) (expression_of s (field_b s at)) (path_of s (field_c s at))
behaviour_from s sub r at BehaviourKind.If =
    if_then_else r (expression_of s (field_a s at)) (sub (field_b s at)) (sub (field_c s at))
behaviour_from s sub r at BehaviourKind.While = while_do r (expression_of s (field_a s at)) (sub (field_b s at))
behaviour_from s sub r at BehaviourKind.Sequence = sequence r (sub (field_a s at)) (sub (field_b s at))
behaviour_from s sub r at BehaviourKind.Parallel = parallel r (sub (field_a s at)) (sub (field_b s at))
behaviour_from s sub r at BehaviourKind.Assign = assign r (path_of s (field_a s at)) (expression_of s (field_b s at))
behaviour_from s sub r at BehaviourKind.Choice = choice r (branches_from s sub (field_a s at) (field_b s at))
behaviour_from s sub r at BehaviourKind.Branch = nil r
behaviour_from s sub r at BehaviourKind.Unknown = nil r

-- B row r to d levels.
unfoldable pub behaviour_to : List ℕ → ℕ → ℕ → Behaviour
behaviour_to s zero r = nil r
behaviour_to s (suc d) r = behaviour_from s (behaviour_to s d) r (behaviour_at s r) (kind_at s r)

-- B row r. "A sub-behaviour is a later row", so there are no more levels than B rows.
unfoldable pub behaviour_of : List ℕ → ℕ → Behaviour
behaviour_of s r = behaviour_to s (behaviour_count s) r

-- The operation that B row r names, if it is of a kind that names one.
abbrev pub row_operation : List ℕ → ℕ → Operation
row_operation s r = operation_of s (field_a s (behaviour_at s r))

-- S: "starter row (a choice), client row, 65535 for none".
abbrev pub optional_behaviour : List ℕ → ℕ → Optional Behaviour
optional_behaviour s v = pick (eqb v no_row) none (some (behaviour_of s v))

unfoldable pub service_of : List ℕ → ℕ → Service
service_of s r = record {
  location = service_location s r;
  starter = optional_behaviour s (starter_row s r);
  client = optional_behaviour s (client_row s r);
  key = service_key s r;
}

-- What f gives for the n rows from `first` on.
unfoldable pub rows_from : {A : Type 0} → (ℕ → A) → ℕ → ℕ → List A
rows_from f first zero = []
rows_from f first (suc n) = f first ∷ rows_from f (suc first) n

-- The network that a file is.
unfoldable pub network_of : List ℕ → Network
network_of s = record {
  services = rows_from (service_of s) 0 (service_count s);
  operations = rows_from (operation_of s) 0 (operation_count s);
}
