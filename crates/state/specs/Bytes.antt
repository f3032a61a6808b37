-- The byte form of a state: 65,536 bytes, 16 slots of 4,096, that of a service and session at 4,096 x (4 x service + session). 01: "each,
-- ill typed too, has one byte form (docs/)": docs/STATE.md accounts for every byte, and this file says the same. First how a state is
-- written, then how bytes are read.
use Rattle.std.specs.Prelude.{◌&&◌, List, [], ◌∷◌, ◌++◌, ℕ, zero, suc, ◌+◌, ◌-◌, ◌/◌, ◌%◌, eqb, ltb, length}
use Rattle.tree_forest.specs.Forest.{Forest, end, Tree, tree, Lookup, absent, present, children_of}
use Rattle.scalar.specs.Value.{Value}
use Rattle.basics.specs.Choice.{pick}
use Rattle.network_syntax.specs.Syntax.{Optional, none, some}
use Rattle.wire.specs.Wire.{byte_at, u16_at, u32_at, part, u16_bytes, u32_bytes}
use Rattle.tree.specs.Encode.{encode, rooted, empty}
use Rattle.tree_forest.specs.Limits.{session_levels, session_nodes}
use Rattle.tree.specs.Decode.{decode, decode_message}
use Rattle.state.specs.Places.{slot_size, tree_room, message_room, entry_size, length_place, key_place, tree_place, queue_place, kept_size, slot_start, row_start}
use Rattle.state.specs.Session.{Destination, outsider, waiting_row, Progress, undone, done, waits, received}
use Rattle.state.specs.Session.{taken, Progresses, Queued, Session, session_of, Slot, free, live, State}

-- n zeros.
unfoldable pub zeros : ℕ → List ℕ
zeros zero = []
zeros (suc n) = 0 ∷ zeros n

-- What f gives for k, k + 1, .., n of them, one after another.
unfoldable pub joined : (ℕ → List ℕ) → ℕ → ℕ → List ℕ
joined f k zero = []
joined f k (suc n) = f k ++ joined f (suc k) n

-- The bytes, then zeros up to n bytes in all.
abbrev pub padded : ℕ → List ℕ → List ℕ
padded n l = l ++ zeros (n - length l)

-- Where a reply goes: its kind, and four bytes (the u32 reply number; or service, session and B row as a u16).
abbrev pub destination_kind : Destination → ℕ
destination_kind (outsider k) = 1
destination_kind (waiting_row q n r) = 2

abbrev pub destination_bytes : Destination → List ℕ
destination_bytes (outsider k) = u32_bytes k
destination_bytes (waiting_row q n r) = q ∷ n ∷ u16_bytes r

-- The same of a message that may have no destination: 0, and zeros.
abbrev pub reply_kind : Optional Destination → ℕ
reply_kind none = 0
reply_kind (some d) = destination_kind d

abbrev pub reply_bytes : Optional Destination → List ℕ
reply_bytes none = zeros 4
reply_bytes (some d) = destination_bytes d

-- 01, Message: "node = id u16 (root 0), basic u8, child count u8, length u8, value, then its children".
abbrev pub message_bytes : Tree Value → List ℕ
message_bytes m = encode (rooted m)

-- A queue entry, 344 bytes: the operation's O row plus 1, the reply's kind, the message's length, where the reply goes, the
-- message and zeros.
unfoldable pub entry_bytes : Queued → List ℕ
entry_bytes m =
    ((m.operation + 1) ∷ reply_kind m.reply_to ∷ u16_bytes (length (message_bytes m.message))) ++
    (reply_bytes m.reply_to ++ padded message_room (message_bytes m.message))

-- The queue's entries, oldest first, then unused ones, which are zeros.
unfoldable pub queue_bytes : ℕ → List Queued → List ℕ
queue_bytes zero l = []
queue_bytes (suc n) [] = zeros entry_size ++ queue_bytes n []
queue_bytes (suc n) (m ∷ l) = entry_bytes m ++ queue_bytes n l

-- A received row says where its reply goes: 4 to an outsider, 5 to a waiting row.
abbrev pub received_code : Destination → ℕ
received_code d = 3 + destination_kind d

-- A row's progress, 6 bytes: what it is, the taken part, where the reply goes.
unfoldable pub progress_bytes : Progress → List ℕ
progress_bytes undone = zeros 6
progress_bytes done = 1 ∷ zeros 5
progress_bytes waits = 2 ∷ zeros 5
progress_bytes (taken k) = 3 ∷ k ∷ zeros 4
progress_bytes (received d) = received_code d ∷ 0 ∷ destination_bytes d

-- The progress of the rows 0 to 255.
abbrev pub rows_bytes : Progresses → List ℕ
rows_bytes p = joined (λ r. progress_bytes (p r)) 0 256

-- A session's tree, under its empty root, is written as a message is.
abbrev pub tree_bytes : Forest Value → List ℕ
tree_bytes F = encode (rooted (tree empty F))

-- The head of a live slot, 16 bytes: 1, a byte kept 0, the tree's length as a u16, the key as a u32, 8 bytes kept 0. HeadLaws has its laws.
unfoldable pub head_bytes : Session → List ℕ
head_bytes S = (1 ∷ 0 ∷ u16_bytes (length (tree_bytes S.tree))) ++ (u32_bytes S.key ++ zeros 8)

-- A slot, 4,096 bytes: zeros if free. If live: its head, the tree in 1,024 bytes, four queue entries, 256 rows, 144 zeros (kept).
unfoldable pub slot_bytes : Slot → List ℕ
slot_bytes free = zeros slot_size
slot_bytes (live S) =
    head_bytes S ++ (padded tree_room (tree_bytes S.tree)
    ++ (queue_bytes 4 S.queue ++ (rows_bytes S.progress ++ zeros kept_size)))

-- The slot k = 4 x service + session.
abbrev pub slot_at : State → ℕ → Slot
slot_at G k = G (k / 4) (k % 4)

-- The slots 0 to 15.
unfoldable pub state_bytes : State → List ℕ
state_bytes G = joined (λ k. slot_bytes (slot_at G k)) 0 16

-- Reading, total on any bytes. What is read from bytes that stand for no state means nothing. First where a reply goes, from its kind.
unfoldable pub read_destination : List ℕ → ℕ → ℕ → Destination
read_destination s kind at =
    pick (eqb kind 1) (outsider (u32_at s at)) (waiting_row (byte_at s at) (byte_at s (at + 1)) (u16_at s (at + 2)))

unfoldable pub read_reply : List ℕ → ℕ → ℕ → Optional Destination
read_reply s kind at = pick (eqb kind 0) none (some (read_destination s kind at))

-- The tree found; a root alone where there is none.
abbrev pub tree_or : Lookup Value → Tree Value
tree_or absent = tree empty end
tree_or (present t) = t

-- The entry that starts at `at`.
unfoldable pub read_entry : List ℕ → ℕ → Queued
read_entry s at = record {
  operation = byte_at s at - 1;
  message = tree_or (decode_message (part s (at + 8) (u16_at s (at + 2))));
  reply_to = read_reply s (byte_at s (at + 1)) (at + 4);
}

-- The used entries, of n, from `at` on.
unfoldable pub read_queue : List ℕ → ℕ → ℕ → List Queued
read_queue s zero at = []
read_queue s (suc n) at = pick (eqb (byte_at s at) 0) [] (read_entry s at ∷ read_queue s n (at + entry_size))

-- The progress in the six bytes from `at` on.
unfoldable pub read_progress : List ℕ → ℕ → Progress
read_progress s at =
    pick (eqb (byte_at s at) 1) done
    (pick (eqb (byte_at s at) 2) waits
    (pick (eqb (byte_at s at) 3) (taken (byte_at s (at + 1)))
    (pick (eqb (byte_at s at) 4) (received (read_destination s 1 (at + 2)))
    (pick (eqb (byte_at s at) 5) (received (read_destination s 2 (at + 2))) undone))))

-- The progress of a row in the slot that starts at `at`.
abbrev pub read_row : List ℕ → ℕ → Progresses
read_row s at r = read_progress s (row_start at r)

-- The length of the tree in the slot that starts at `at`, and the tree.
abbrev pub tree_length : List ℕ → ℕ → ℕ
tree_length s at = u16_at s (at + length_place)

abbrev pub read_tree : List ℕ → ℕ → Forest Value
read_tree s at = children_of (decode session_levels session_nodes (part s (at + tree_place) (tree_length s at)))

-- The key in the slot that starts at `at`.
abbrev pub read_key : List ℕ → ℕ → ℕ
read_key s at = u32_at s (at + key_place)

-- The session in the slot that starts at `at`; rows past 255 have no progress.
unfoldable pub read_session : List ℕ → ℕ → Session
read_session s at =
    session_of (read_tree s at) (read_queue s 4 (at + queue_place)) (λ r. pick (ltb r 256) (read_row s at r) undone)
    (read_key s at)

-- The slot that starts at `at`.
unfoldable pub read_slot : List ℕ → ℕ → Slot
read_slot s at = pick (eqb (byte_at s at) 0) free (live (read_session s at))

-- The slots of services 0 to 3 and sessions 0 to 3; every other is free.
unfoldable pub read_state : List ℕ → State
read_state s = λ q n. pick (ltb q 4 && ltb n 4) (read_slot s (slot_start q n)) free
