-- What each move does, on a decoded state. 01, Moves, and refusals 15 to 19 and 22. A result is a refusal, or the state after the
-- move with the bytes written out.
use Rattle.std.specs.Prelude.{Bool, true, false, ◌&&◌, List, [], ◌∷◌, ◌++◌, ℕ, ◌+◌, eqb, leb}
use Rattle.tree_forest.specs.Forest.{end, Tree, tree, Lookup, absent, present, nodes, levels}
use Rattle.tree_forest.specs.Path.{Path, read, replace_at, set_payload_at}
use Rattle.scalar.specs.Basic.{bool}
use Rattle.scalar.specs.Value.{void_value, Value, value}
use Rattle.wire.specs.Wire.{unsigned_of}
use Rattle.basics.specs.Choice.{pick}
use Rattle.network_syntax.specs.Syntax.{MessageType, Expression, Optional, none, some, Network, Operation, input, output, Behaviour}
use Rattle.network_syntax.specs.Rows.{at_row, Response, Input, Output, Local, assigns, decides, repeats, two_way_input, two_way_output, input_of, output_of, local_of}
use Rattle.network_syntax.specs.Rows.{is_input_operation}
use Rattle.state.specs.Session.{received_by, Destination, outsider, waiting_row, Progress, undone, done, waits, received, taken, Progresses}
use Rattle.state.specs.Session.{advance, reopen, Session, with_tree, with_queue, with_progress, with_key, Slot, free, live, State, set_slot, new_session}
use Rattle.refusal.specs.declared.Refusal.{Refusal}
use Rattle.refusal.specs.declared.Refusal.TheVariants.{MoveNotAllowed, QueueFull, NoMessage, Stuck, MessageMisfit, OutOfRange}
use Rattle.check_subtyping.specs.Own.{fits}
use Rattle.check_typing.specs.Environment.{within}
use Rattle.check_typing.specs.Rules.{permits}
use Rattle.network_syntax.specs.Meets.{met_input, in_file, first_of}
use Rattle.tree_forest.specs.Limits.{message_levels_below, message_nodes_below}
use Rattle.tree.specs.Decode.{decode_message}
use Rattle.state.specs.Queue.{QueueSplit, nothing, message, oldest}
use Rattle.state.specs.Bytes.{message_bytes}
use Rattle.wire.specs.Wire.{u32_bytes}
use Rattle.move_rules.specs.Readiness.{is_done, Reached, unreached, reached, offered, reach}
use Rattle.state.specs.Shape.{behaviour_in}
use Rattle.move_rules.specs.Targets.{Target, no_target, queue_full, queued, starts, target}
use Rattle.move_rules.specs.Keys.{key_to_keep, finds_session}
use Rattle.move_rules.specs.Evaluation.{Evaluation, missing, wrong_kind, beyond, given, found, evaluate}

pub data Result : Type 0 where
  refused : Refusal → Result
  moved : State → List ℕ → Result

-- 15: "The move is not allowed by the list above".
abbrev pub not_allowed : Result
not_allowed = refused MoveNotAllowed

-- A test with its refusal, before the rest.
abbrev pub require : Bool → Refusal → Result → Result
require true why r = r
require false why r = refused why

-- 22: "where the exact result is outside its width, the move is refused".
abbrev pub out_of_range : Result
out_of_range = refused OutOfRange

-- What evaluation answers, as a move goes on with it: 18, "A value read is missing, an operand or condition is of the wrong kind"; g of a
-- basic type beyond which it is; f of its tree.
abbrev pub on_evaluation : Evaluation (Tree Value) → (ℕ → Result) → (Tree Value → Result) → Result
on_evaluation missing g f = refused Stuck
on_evaluation wrong_kind g f = refused Stuck
on_evaluation (beyond b) g f = g b
on_evaluation (given t) g f = f t

-- The tree, or 18, or 22: "tried between 18 and 19".
abbrev pub on_tree : Evaluation (Tree Value) → (Tree Value → Result) → Result
on_tree x f = on_evaluation x (λ b. out_of_range) f

abbrev pub root_value : Tree Value → Value
root_value (tree v k) = v

-- The condition's value, or 18; of one that is beyond, 18 where it is no bool, then 22.
abbrev pub on_bool : Value → (Bool → Result) → Result
on_bool (value b v) f = require (eqb b bool) Stuck (f (eqb (unsigned_of v) 1))

abbrev pub on_truth : Evaluation (Tree Value) → (Bool → Result) → Result
on_truth x f = on_evaluation x (λ b. require (eqb b bool) Stuck out_of_range) (λ t. on_bool (root_value t) f)

-- What a session is, if it is live.
abbrev pub on_live : Slot → (Session → Result) → Result
on_live free f = not_allowed
on_live (live S) f = f S

abbrev pub on_behaviour : Optional Behaviour → (Behaviour → Result) → Result
on_behaviour none f = not_allowed
on_behaviour (some b) f = f b

abbrev pub on_operation : Optional Operation → (Operation → Result) → Result
on_operation none f = not_allowed
on_operation (some o) f = f o

-- A live session with what it runs, or 15.
abbrev pub in_session : Network → State → ℕ → ℕ → (Behaviour → Session → Result) → Result
in_session N G q n f = on_behaviour (behaviour_in N q n) (λ B. on_live (G q n) (λ S. f B S))

abbrev pub if_undone : Progress → Result → Result
if_undone undone r = r
if_undone done r = not_allowed
if_undone waits r = not_allowed
if_undone (received to) r = not_allowed
if_undone (taken k) r = not_allowed

abbrev pub if_waiting : Progress → Result → Result
if_waiting undone r = not_allowed
if_waiting done r = not_allowed
if_waiting waits r = r
if_waiting (received to) r = not_allowed
if_waiting (taken k) r = not_allowed

abbrev pub on_received : Progress → (Destination → Result) → Result
on_received undone f = not_allowed
on_received done f = not_allowed
on_received waits f = not_allowed
on_received (received to) f = f to
on_received (taken k) f = not_allowed

-- A while is ready when it is undone, "a while whose body is done is again".
abbrev pub if_ready_while : Progress → Bool → Result → Result
if_ready_while undone body_done r = r
if_ready_while done body_done r = not_allowed
if_ready_while waits body_done r = not_allowed
if_ready_while (received to) body_done r = not_allowed
if_ready_while (taken k) body_done r = require body_done MoveNotAllowed r

-- The state with that session live, its tree within 48 nodes and 6 levels, or 18.
abbrev pub save_within : State → ℕ → ℕ → Session → List ℕ → Result
save_within G q n S out = require (within S.tree) Stuck (moved (set_slot G q n (live S)) out)

module _ (G : State) (q n : ℕ) (S : Session) where
  -- "local: a ready assign, if or while; assign sets one root value and keeps children."
  abbrev pub assigned : ℕ → Path → Tree Value → Result
  assigned r x t =
      save_within G q n
      (with_progress (with_tree S (set_payload_at void_value x (root_value t) S.tree)) (advance S.progress r done)) []

  -- Of a value that is beyond, 18 where the assign would take the tree past its limits, then 22.
  abbrev pub unassigned : Path → Result
  unassigned x = require (within (set_payload_at void_value x void_value S.tree)) Stuck out_of_range

  abbrev pub decided : ℕ → Bool → Result
  decided r c = moved (set_slot G q n (live (with_progress S (advance S.progress r (taken (pick c 0 1)))))) []

  abbrev pub repeated : ℕ → Behaviour → Bool → Result
  repeated r b c =
      moved (set_slot G q n (live (with_progress S
      (pick c (advance (reopen S.progress b) r (taken 0)) (advance S.progress r done))))) []

  abbrev pub local_by : Optional Local → Result
  local_by none = not_allowed
  local_by (some (assigns r x e)) =
      if_undone (S.progress r)  -- 15
      (on_evaluation (evaluate S.tree e) (λ b. unassigned x) (assigned r x))  -- 18: the value, then the tree; 22
  local_by (some (decides r e a b)) =
      if_undone (S.progress r)  -- 15
      (on_truth (evaluate S.tree e) (decided r))  -- 18, 22
  local_by (some (repeats r e b)) =
      if_ready_while (S.progress r) (is_done S.progress b)  -- 15
      (on_truth (evaluate S.tree e) (repeated r b))  -- 18, 22

  unfoldable pub local_at : Behaviour → Result
  local_at b = local_by (local_of b)

  abbrev pub local_reached : Reached → Result
  local_reached unreached = not_allowed
  local_reached (reached b) = local_at b
  local_reached (offered c k b) = not_allowed

abbrev pub local_move : Network → State → ℕ → ℕ → ℕ → Result
local_move N G q n r = in_session N G q n (λ B S. local_reached G q n S (reach S.progress r B))

-- The operation is one that 6 lets pass, for an input or an output row of the service q.
abbrev pub permits_input : ℕ → Input → Bool
permits_input q i = permits q input (two_way_input i) i.operation

abbrev pub permits_output : ℕ → Output → Bool
permits_output q u = permits q output (two_way_output u) u.operation

module _ (G : State) (q n : ℕ) (S : Session) where
  -- "receive: a ready input .. takes the oldest queued message of its operation and replaces the subtree." `settled` is the
  -- progress with the branch settled, in a choice.
  abbrev pub receive_message : Path → Progresses → ℕ → QueueSplit → Result
  receive_message x settled r nothing = not_allowed
  receive_message x settled r (message m l) =
      save_within G q n
      (with_queue (with_progress (with_tree S (replace_at void_value x m.message S.tree))
      (advance settled r (received_by m.reply_to))) l) []

  abbrev pub receive_by : Progresses → Optional Input → Result
  receive_by settled none = not_allowed
  receive_by settled (some i) =
      if_undone (S.progress i.row)  -- 15
      (require (permits_input q i) MoveNotAllowed  -- 15
      (receive_message i.into settled i.row (oldest i.operation.row S.queue)))

  unfoldable pub receive_at : Progresses → Behaviour → Result
  receive_at settled b = receive_by settled (input_of b)

  abbrev pub receive_reached : Reached → Result
  receive_reached unreached = not_allowed
  receive_reached (reached b) = receive_at S.progress b
  receive_reached (offered c k b) = receive_at (advance S.progress c (taken k)) b

abbrev pub receive_move : Network → State → ℕ → ℕ → ℕ → Result
receive_move N G q n r = in_session N G q n (λ B S. receive_reached G q n S (reach S.progress r B))

-- 16: "The target's queue holds four"; 15 where there is no target, or where 6 refuses the starter's input row.
abbrev pub allowed : ℕ → Target → Result → Result
allowed q no_target r = not_allowed
allowed q queue_full r = refused QueueFull
allowed q queued r = r
allowed q (starts c k i) r = require (permits_input q i) MoveNotAllowed r

-- A started session: the branch k of its starter is taken, and its input has received the message; it keeps the key y.
abbrev pub started_by : ℕ → ℕ → ℕ → Path → Progress → Tree Value → ℕ → Session
started_by c k r x after m y =
    with_key (with_progress (with_tree new_session (replace_at void_value x m end))
    (advance (advance new_session.progress c (taken k)) r after)) y

abbrev pub started : ℕ → ℕ → Input → Optional Destination → Tree Value → ℕ → Session
started c k i to m y = started_by c k i.row i.into (received_by to) m y

-- The message at its target, in a state in which the sender has gone on: "queued at a live one, or starting a free 1 to 3".
abbrev pub deliver : Network → State → Operation → ℕ → Target → Optional Destination → Tree Value → Result
deliver N G o n no_target to m = not_allowed
deliver N G o n queue_full to m = refused QueueFull
deliver N G o n queued to m =
    on_live (G o.service n)
    (λ S. moved (set_slot G o.service n (live (with_queue S
    (S.queue ++ (record { operation = o.row; message = m; reply_to = to } ∷ []))))) [])
deliver N G o n (starts c k i) to m = save_within G o.service n (started c k i to m (key_to_keep N o m)) []

-- "at most 16 nodes, 4 levels": one of each is the root.
abbrev pub is_message_tree : Tree Value → Bool
is_message_tree (tree v k) = leb (levels k) message_levels_below && leb (nodes k) message_nodes_below

-- 19: "A message doesn't fit its input's request type, a reply its waiting row's reply type, or either, outbound, the sender's."
-- A tree that is no message fits none.
abbrev pub must_fit : Tree Value → MessageType → Result → Result
must_fit m t r = require (is_message_tree m && fits m t) MessageMisfit r

-- 15: "another target, and any target of a message without that int, is 15".
abbrev pub must_find : Network → State → Operation → ℕ → Tree Value → Result → Result
must_find N G i n m r = require (finds_session N G i n m) MoveNotAllowed r

-- The session S of that slot with its row r gone on.
abbrev pub gone_on : State → ℕ → ℕ → Session → ℕ → Progress → State
gone_on G q n S r after = set_slot G q n (live (with_progress S (advance S.progress r after)))

-- A message for the input i, to session n of its service: 15 and 16 by its target, then what the message itself answers (18 and 22 of a value, 17
-- of bytes from outside), 19, 15 by its key, and the delivery, in the state in which its sender has gone on.
abbrev pub admit : Network → State → Operation → ℕ → ((Tree Value → Result) → Result)
    → State → Optional Destination → Result
admit N G i n answer gone to =
    allowed i.service (target N G i n)  -- 15, 16
    (answer  -- 17, or 18 and 22
    (λ m. must_fit m i.request  -- 19
    (must_find N G i n m  -- 15: the key, "for this cause tried after 19"
    (deliver N gone i n (target N G i n) to m))))  -- 18: the tree

module _ (N : Network) (G : State) (q n : ℕ) (S : Session) (session : ℕ) where
  -- Inside: to the input it meets.
  abbrev pub send_inside : ℕ → Expression → Progress → Optional Destination → Operation → Result
  send_inside r e after back i = admit N G i session (on_tree (evaluate S.tree e)) (gone_on G q n S r after) back

  -- "To a location outside (target 0) the message alone goes to the start of the out buffer."
  abbrev pub send_outside : ℕ → Operation → Expression → Progress → Result
  send_outside r o e after =
      require (eqb session 0) MoveNotAllowed  -- 15
      (on_tree (evaluate S.tree e)  -- 18, 22
      (λ m. must_fit m o.request  -- 19
      (moved (gone_on G q n S r after) (message_bytes m))))

  abbrev pub send_by : ℕ → Operation → Expression → Progress → Optional Destination → Result
  send_by r o e after back =
      pick (in_file N o.location) (on_operation (met_input N o) (send_inside r e after back)) (send_outside r o e after)

  -- An output's progress once sent, and where its reply goes: "A solicit-response then waits."
  abbrev pub sent_by : Bool → Progress
  sent_by true = waits
  sent_by false = done

  abbrev pub replies_to : Bool → ℕ → Optional Destination
  replies_to true r = some (waiting_row q n r)
  replies_to false r = none

  abbrev pub send_output : Optional Output → Result
  send_output none = not_allowed
  send_output (some u) =
      if_undone (S.progress u.row)  -- 15
      (require (permits_output q u) MoveNotAllowed  -- 15
      (send_by u.row u.operation u.message (sent_by (two_way_output u)) (replies_to (two_way_output u) u.row)))

  unfoldable pub send_at : Behaviour → Result
  send_at b = send_output (output_of b)

  abbrev pub send_reached : Reached → Result
  send_reached unreached = not_allowed
  send_reached (reached b) = send_at b
  send_reached (offered c k b) = not_allowed

abbrev pub send_move : Network → State → ℕ → ℕ → ℕ → ℕ → Result
send_move N G q n r session = in_session N G q n (λ B S. send_reached N G q n S session (reach S.progress r B))

-- The output of a row that waits for its reply: its operation, and the path into which the reply goes.
abbrev pub on_reply_path : Optional Path → (Path → Result) → Result
on_reply_path none f = not_allowed
on_reply_path (some x) f = f x

abbrev pub on_waiting_output : ℕ → Session → Optional Output → (Operation → Path → Result) → Result
on_waiting_output q S none f = not_allowed
on_waiting_output q S (some u) f =
    on_reply_path u.into
    (λ x. if_waiting (S.progress u.row) (require (permits_output q u) MoveNotAllowed (f u.operation x)))

abbrev pub on_waiting_row : ℕ → Session → Optional Behaviour → (Operation → Path → Result) → Result
on_waiting_row q S none f = not_allowed
on_waiting_row q S (some b) f = on_waiting_output q S (output_of b) f

-- The waiting row r takes its reply: the subtree at its path is replaced, and the row is done.
abbrev pub take_reply : State → ℕ → ℕ → ℕ → Path → Tree Value → Result
take_reply G q n r x m =
    on_live (G q n)
    (λ S. save_within G q n
    (with_progress (with_tree S (replace_at void_value x m S.tree)) (advance S.progress r done)) [])

module _ (N : Network) (G : State) (q n : ℕ) (S : Session) where
  -- "reply: a request-response whose body is done answers its waiting row; for an outsider, the u32 reply number and then the
  -- message go to the start of the out buffer."
  abbrev pub reply_to : ℕ → Operation → Path → Destination → Result
  reply_to r o c (outsider k) =
      on_tree (found (read c S.tree))  -- 18
      (λ m. must_fit m o.reply  -- 19
      (moved (gone_on G q n S r done) (u32_bytes k ++ message_bytes m)))
  reply_to r o c (waiting_row q2 n2 r2) =
      in_session N G q2 n2  -- 15
      (λ B2 S2. on_waiting_row q2 S2 (at_row r2 B2)  -- 15
      (λ o2 x2. on_tree (found (read c S.tree))  -- 18
      (λ m. must_fit m o2.reply  -- 19
      (take_reply (gone_on G q n S r done) q2 n2 r2 x2 m))))  -- 18: the tree

  abbrev pub on_response : Optional Response → (Response → Result) → Result
  on_response none f = not_allowed
  on_response (some a) f = f a

  abbrev pub reply_by : Optional Input → Result
  reply_by none = not_allowed
  reply_by (some i) =
      on_response i.response  -- 15
      (λ a. on_received (S.progress i.row)  -- 15
      (λ to. require (is_done S.progress a.body) MoveNotAllowed  -- 15
      (require (permits_input q i) MoveNotAllowed  -- 15
      (reply_to i.row i.operation a.path to))))

  abbrev pub reply_at : Optional Behaviour → Result
  reply_at none = not_allowed
  reply_at (some b) = reply_by (input_of b)

abbrev pub reply_move : Network → State → ℕ → ℕ → ℕ → Result
reply_move N G q n r = in_session N G q n (λ B S. reply_at N G q n S (at_row r B))

-- 17: "Outside bytes are no message."
abbrev pub on_message : Lookup Value → (Tree Value → Result) → Result
on_message absent f = refused NoMessage
on_message (present m) f = f m

-- The input of the service q with that id; ids of inputs are unique in a service.
abbrev pub is_input_named : ℕ → ℕ → Operation → Bool
is_input_named q id o = eqb o.service q && (is_input_operation o.direction && eqb o.id id)

abbrev pub input_named : Network → ℕ → ℕ → Optional Operation
input_named N q id = first_of (is_input_named q id) N.operations

-- "outer message (service, operation id, target session, u32 reply number, ignored if one-way, bytes), sent likewise"
abbrev pub outer_message_move : Network → State → ℕ → ℕ → ℕ → ℕ → List ℕ → Result
outer_message_move N G q id n number bytes =
    on_operation (input_named N q id)  -- 15
    (λ i. admit N G i n (on_message (decode_message bytes)) G (pick i.two_way (some (outsider number)) none))

-- "outer reply (bytes for a row waiting on an outside location)"
abbrev pub outer_reply_move : Network → State → ℕ → ℕ → ℕ → List ℕ → Result
outer_reply_move N G q n r bytes =
    in_session N G q n  -- 15
    (λ B S. on_waiting_row q S (at_row r B)  -- 15
    (λ o x. pick (in_file N o.location) not_allowed  -- 15
    (on_message (decode_message bytes)  -- 17
    (λ m. must_fit m o.reply  -- 19
    (take_reply G q n r x m)))))  -- 18: the tree

-- "close: a done session becomes free; its queue is dropped"
abbrev pub close_move : Network → State → ℕ → ℕ → Result
close_move N G q n =
    in_session N G q n (λ B S. require (is_done S.progress B) MoveNotAllowed (moved (set_slot G q n free) []))

-- "A move names service, session and behaviour row".
pub data Move : Type 0 where
  local : ℕ → ℕ → ℕ → Move
  receive : ℕ → ℕ → ℕ → Move
  send : ℕ → ℕ → ℕ → ℕ → Move
  reply : ℕ → ℕ → ℕ → Move
  outer_message : ℕ → ℕ → ℕ → ℕ → Move
  outer_reply : ℕ → ℕ → ℕ → Move
  close : ℕ → ℕ → Move

-- A move on a state, with the bytes that come from outside.
unfoldable pub move : Network → State → Move → List ℕ → Result
move N G (local q n r) bytes = local_move N G q n r
move N G (receive q n r) bytes = receive_move N G q n r
move N G (send q n r session) bytes = send_move N G q n r session
move N G (reply q n r) bytes = reply_move N G q n r
move N G (outer_message q id n number) bytes = outer_message_move N G q id n number bytes
move N G (outer_reply q n r) bytes = outer_reply_move N G q n r bytes
move N G (close q n) bytes = close_move N G q n
