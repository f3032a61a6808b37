-- Which states have this file's shape, and which bytes stand for one. 01, Moves: "Per service and session a state is free, or holds
-- a tree, a queue of up to four messages, the progress of rows and where replies go"; 14: "The state bytes stand for no state of
-- this file's shape." Types and reachability are no part of the shape: "each, ill typed too, has one byte form".
use Rattle.std.specs.Prelude.{◌≡◌, Bool, true, false, not, ◌&&◌, ◌||◌, List, [], ◌∷◌, ◌⊎◌, ℕ, zero, suc, ◌≤◌, ◌<◌, T, eqb, leb, ltb, length}
use Rattle.tree_forest.specs.Forest.{tree}
use Rattle.basics.specs.Choice.{pick}
use Rattle.network_syntax.specs.Syntax.{Optional, none, some, Service, Network, Operation, Behaviour}
use Rattle.network_syntax.specs.Syntax.{nil, one_way, request_response, notification, solicit_response}
use Rattle.network_syntax.specs.Syntax.{if_then_else, while_do, sequence, parallel, assign, choice, waiting, answering, Branches, last_branch, branch}
use Rattle.network_syntax.specs.Rows.{has_row, entry, is_input_operation}
use Rattle.network_syntax.specs.Keys.{is_keyed, holds_key}
use Rattle.tree.specs.Encode.{WellFormedTree, empty}
use Rattle.tree_forest.specs.Limits.{message_levels_below, message_nodes_below, session_levels, session_nodes}
use Rattle.state.specs.Session.{Destination, outsider, waiting_row, Progress, undone, done, waits, received, taken, Progresses}
use Rattle.state.specs.Session.{Queued, Session, Slot, free, live, State, new_session}
use Rattle.state.specs.Bytes.{state_bytes, read_state}

-- The service of a row.
abbrev pub service_of_row : List Service → ℕ → Optional Service
service_of_row l q = entry q l

abbrev pub client_of : Optional Service → Optional Behaviour
client_of none = none
client_of (some s) = s.client

abbrev pub starter_of : Optional Service → Optional Behaviour
starter_of none = none
starter_of (some s) = s.starter

-- What a session runs: the client in session 0, the starter in sessions 1 to 3.
abbrev pub behaviour_in : Network → ℕ → ℕ → Optional Behaviour
behaviour_in N q n =
    pick (eqb n 0) (client_of (service_of_row N.services q))
    (pick (leb n 3) (starter_of (service_of_row N.services q)) none)

-- The operation of an O row.
abbrev pub operation_of_row : List Operation → ℕ → Optional Operation
operation_of_row l w = entry w l

-- Where a reply goes: "where replies go", with the services, sessions and B rows that there are.
abbrev pub is_destination : Network → ℕ → Destination → Bool
is_destination N rows (outsider k) = ltb k 0x100000000
is_destination N rows (waiting_row q n r) = ltb q (length N.services) && (leb n 3 && ltb r rows)

-- A message has a destination exactly if its operation is two-way.
abbrev pub suits_reply : Network → ℕ → Bool → Optional Destination → Bool
suits_reply N rows two_way none = not two_way
suits_reply N rows two_way (some d) = two_way && is_destination N rows d

-- A queued message is of an input of its service, and where its reply goes suits that.
abbrev pub suits_operation : Network → ℕ → ℕ → Optional Destination → Optional Operation → Bool
suits_operation N rows q to none = false
suits_operation N rows q to (some o) =
    eqb o.service q && (is_input_operation o.direction && suits_reply N rows o.two_way to)

unfoldable pub suits_queue : Network → ℕ → ℕ → List Queued → Bool
suits_queue N rows q [] = true
suits_queue N rows q (m ∷ l) =
    suits_operation N rows q m.reply_to (operation_of_row N.operations m.operation) && suits_queue N rows q l

-- The progress of each kind of row.
abbrev pub is_undone : Progress → Bool
is_undone undone = true
is_undone done = false
is_undone waits = false
is_undone (received to) = false
is_undone (taken k) = false

abbrev pub undone_or_done : Progress → Bool
undone_or_done undone = true
undone_or_done done = true
undone_or_done waits = false
undone_or_done (received to) = false
undone_or_done (taken k) = false

abbrev pub undone_done_or_waits : Progress → Bool
undone_done_or_waits undone = true
undone_done_or_waits done = true
undone_done_or_waits waits = true
undone_done_or_waits (received to) = false
undone_done_or_waits (taken k) = false

abbrev pub undone_done_or_received : Network → ℕ → Progress → Bool
undone_done_or_received N rows undone = true
undone_done_or_received N rows done = true
undone_done_or_received N rows waits = false
undone_done_or_received N rows (received to) = is_destination N rows to
undone_done_or_received N rows (taken k) = false

-- Undone, or one of `parts` parts taken.
abbrev pub undone_or_taken : ℕ → Progress → Bool
undone_or_taken parts undone = true
undone_or_taken parts done = false
undone_or_taken parts waits = false
undone_or_taken parts (received to) = false
undone_or_taken parts (taken k) = ltb k parts

abbrev pub undone_done_or_body : Progress → Bool
undone_done_or_body undone = true
undone_done_or_body done = true
undone_done_or_body waits = false
undone_done_or_body (received to) = false
undone_done_or_body (taken k) = eqb k 0

-- How many branches a choice has.
unfoldable pub branches : Branches → ℕ
branches (last_branch r a b) = 1
branches (branch r a b m) = suc (branches m)

unfoldable mutual
  -- Each row of the behaviour has a progress of its kind. (The last two kinds stand only in a rest, never in what a session runs.)
  pub suits : Network → ℕ → Progresses → Behaviour → Bool
  suits N rows p (nil r) = is_undone (p r)
  suits N rows p (one_way r o x) = undone_or_done (p r)
  suits N rows p (request_response r o x c d) = undone_done_or_received N rows (p r) && suits N rows p d
  suits N rows p (notification r o e) = undone_or_done (p r)
  suits N rows p (solicit_response r o e x) = undone_done_or_waits (p r)
  suits N rows p (if_then_else r e a b) = undone_or_taken 2 (p r) && (suits N rows p a && suits N rows p b)
  suits N rows p (while_do r e b) = undone_done_or_body (p r) && suits N rows p b
  suits N rows p (sequence r a b) = is_undone (p r) && (suits N rows p a && suits N rows p b)
  suits N rows p (parallel r a b) = is_undone (p r) && (suits N rows p a && suits N rows p b)
  suits N rows p (assign r x e) = undone_or_done (p r)
  suits N rows p (choice r m) = undone_or_taken (branches m) (p r) && suits_branches N rows p m
  suits N rows p (waiting r o x) = is_undone (p r)
  suits N rows p (answering r o c d) = is_undone (p r) && suits N rows p d

  pub suits_branches : Network → ℕ → Progresses → Branches → Bool
  suits_branches N rows p (last_branch r a b) = is_undone (p r) && (suits N rows p a && suits N rows p b)
  suits_branches N rows p (branch r a b m) =
      is_undone (p r) && ((suits N rows p a && suits N rows p b) && suits_branches N rows p m)

-- Rows that are none of the behaviour's have no progress.
unfoldable pub quiet_elsewhere : ℕ → Progresses → Behaviour → Bool
quiet_elsewhere zero p B = true
quiet_elsewhere (suc n) p B = (has_row n B || is_undone (p n)) && quiet_elsewhere n p B

-- A live session runs something, and its queue and progress suit that.
abbrev pub suits_behaviour : Network → ℕ → ℕ → Session → Optional Behaviour → Bool
suits_behaviour N rows q S none = false
suits_behaviour N rows q S (some B) =
    suits_queue N rows q S.queue && (suits N rows S.progress B && quiet_elsewhere 256 S.progress B)

abbrev pub suits_slot : Network → ℕ → ℕ → ℕ → Slot → Bool
suits_slot N rows q n free = true
suits_slot N rows q n (live S) = suits_behaviour N rows q S (behaviour_in N q n)

-- The sessions 0 to n - 1 of a service, and those of the services 0 to q - 1.
unfoldable pub suits_slots : Network → ℕ → State → ℕ → ℕ → Bool
suits_slots N rows G q zero = true
suits_slots N rows G q (suc n) = suits_slot N rows q n (G q n) && suits_slots N rows G q n

unfoldable pub suits_services : Network → ℕ → State → ℕ → Bool
suits_services N rows G zero = true
suits_services N rows G (suc q) = suits_slots N rows G q 4 && suits_services N rows G q

-- Every message of a queue keeps to a message's limits, and its values are values.
unfoldable pub AllMessages : List Queued → Type 0
AllMessages [] = Unit {0}
AllMessages (m ∷ l) = WellFormedTree message_levels_below message_nodes_below m.message × AllMessages l

-- What a live session is in any file: a tree within "48 nodes or 6 levels", "a queue of up to four messages", and progress of the rows
-- that a file can have; a key is an int's four bytes.
pub record WellMade (S : Session) : Type 0 where
  pub bounded : WellFormedTree session_levels session_nodes (tree empty S.tree)
  pub up_to_four : length S.queue ≤ 4
  pub messages : AllMessages S.queue
  pub no_rows_past : (r : ℕ) → 256 ≤ r → S.progress r ≡ undone
  pub key_fits : S.key < 0x100000000

abbrev pub MadeSlot : Slot → Type 0
MadeSlot free = Unit {0}
MadeSlot (live S) = WellMade S

-- 02: "no two live sessions of a service hold one key". Only sessions 1 to 3 of a keyed service hold one.
abbrev pub KeysApart : Network → State → Type 0
KeysApart N G =
    (q n m : ℕ) (S R : Session) → T (holds_key N q n) → T (holds_key N q m) → G q n ≡ live S → G q m ≡ live R
    → S.key ≡ R.key → n ≡ m

abbrev pub NoKeyElsewhere : Network → State → Type 0
NoKeyElsewhere N G = (q n : ℕ) (S : Session) → holds_key N q n ≡ false → G q n ≡ live S → S.key ≡ 0

-- "this file's shape": each slot of the services and sessions 0 to 3 is free, or live with what suits what it runs; every other is free;
-- 02: "a state in which two do is 14".
pub record HasShape (N : Network) (rows : ℕ) (G : State) : Type 0 where
  pub made : (q n : ℕ) → q < 4 → n < 4 → MadeSlot (G q n)
  pub suited : (q n : ℕ) → q < 4 → n < 4 → suits_slot N rows q n (G q n) ≡ true
  pub elsewhere : (q n : ℕ) → (4 ≤ q) ⊎ (4 ≤ n) → G q n ≡ free
  pub keyless : NoKeyElsewhere N G
  pub keys_apart : KeysApart N G

-- The bytes s stand for the state G of this file's shape.
pub record Stands (N : Network) (rows : ℕ) (s : List ℕ) (G : State) : Type 0 where
  pub shape : HasShape N rows G
  pub bytes : s ≡ state_bytes G

-- Two lists of numbers are the same.
unfoldable pub same_bytes : List ℕ → List ℕ → Bool
same_bytes [] [] = true
same_bytes [] (b ∷ t) = false
same_bytes (a ∷ s) [] = false
same_bytes (a ∷ s) (b ∷ t) = eqb a b && same_bytes s t

-- The session of a slot, if it is live, has no key; those of two slots, if both are live, have different ones.
abbrev pub has_no_key : Slot → Bool
has_no_key free = true
has_no_key (live S) = eqb S.key 0

abbrev pub keys_differ : Slot → Slot → Bool
keys_differ free y = true
keys_differ (live S) free = true
keys_differ (live S) (live R) = not (eqb S.key R.key)

-- The keys of the sessions of a service, which is keyed or not.
abbrev pub suits_keys : Bool → (ℕ → Slot) → Bool
suits_keys true g = has_no_key (g 0) && (keys_differ (g 1) (g 2) && (keys_differ (g 1) (g 3) && keys_differ (g 2) (g 3)))
suits_keys false g = has_no_key (g 0) && (has_no_key (g 1) && (has_no_key (g 2) && has_no_key (g 3)))

-- Those of the services 0 to q - 1.
unfoldable pub suits_all_keys : Network → State → ℕ → Bool
suits_all_keys N G zero = true
suits_all_keys N G (suc q) = suits_keys (is_keyed N q) (G q) && suits_all_keys N G q

-- The state that the bytes stand for, if they stand for one: what is read has the shape, and its byte form is these bytes.
-- `rows` is the file's number of B rows.
unfoldable pub decode_state : Network → ℕ → List ℕ → Optional State
decode_state N rows s =
    let G = read_state s in
    pick ((suits_services N rows G 4 && suits_all_keys N G 4) && same_bytes (state_bytes G) s) (some G) none

-- Fresh state: "clients live in session 0, all else free".
abbrev pub fresh_slot : Optional Behaviour → Slot
fresh_slot none = free
fresh_slot (some B) = live new_session

abbrev pub fresh_state : Network → State
fresh_state N = λ q n. pick (eqb n 0) (fresh_slot (client_of (service_of_row N.services q))) free

-- The clients of the services before k live, all else free.
abbrev pub fresh_up_to : Network → ℕ → State
fresh_up_to N k = λ q n. pick (ltb q k) (fresh_state N q n) free
