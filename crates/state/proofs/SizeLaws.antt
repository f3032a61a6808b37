-- The sizes of the byte form's parts. 01: "string and raw 0 to 16 bytes", so a node takes at most 21 bytes; a message, "at most 16 nodes",
-- at most 336, and a session's tree, at most 48 nodes below its empty root, at most 1,013.
use Rattle.std.specs.Prelude.{◌≡◌, refl, List, [], ◌∷◌, ◌++◌, ℕ, zero, suc, ◌+◌, ◌*◌, ◌/◌, ◌%◌, ◌≤◌, ◌<◌, length}
use Rattle.std.proofs.Common.{ap, ◌∙◌, inl, arith, length-append}
use Rattle.std.proofs.Math.Decide.{dec_lt}
use Rattle.tree_forest.specs.Forest.{Forest, end, node, Tree, tree, measure, nodes}
use Rattle.scalar.specs.Value.{Value, value}
use Rattle.scalar.specs.ValueLaws.{value-size}
use Rattle.network_syntax.specs.Syntax.{Optional, none, some, Network}
use Rattle.tree.specs.Encode.{encode, rooted, empty, SoundValues, WellFormedTree}
use Rattle.tree_forest.specs.Limits.{message_levels_below, message_nodes_below, session_levels, session_nodes}
use Rattle.tree.specs.EncodeLaws.{length-node}
use Rattle.state.specs.Places.{slot_size, tree_room, message_room, entry_size, queue_size, rows_size, row_size}
use Rattle.state.specs.Session.{Destination, outsider, waiting_row, Progress, undone, done, waits}
use Rattle.state.specs.Session.{received, taken, Progresses, Queued, Session, Slot, free, live, State}
use Rattle.state.specs.Bytes.{zeros, padded, destination_bytes, reply_bytes, message_bytes, entry_bytes}
use Rattle.state.specs.Bytes.{queue_bytes, progress_bytes, rows_bytes, tree_bytes, slot_bytes, slot_at, state_bytes}
use Rattle.state.specs.Shape.{AllMessages, WellMade, MadeSlot, HasShape}
use Rattle.state.proofs.PartLaws.{length-zeros, length-padded, length-joined}
use Rattle.state.proofs.HeadLaws.{head-size}

-- ---- a tree's bytes

pub forest-size : (f : Forest Value) → SoundValues f → length (encode f) ≤ 21 * nodes f
unfolding SoundValues measure encode
forest-size end h = omega arith
forest-size (node i (value b v) ks rest) h =
    omega (arith, length-node i b v ks rest, value-size b v h.2.valid, forest-size ks h.3, forest-size rest h.4)

tree-size : (deep many : ℕ) (b : ℕ) (v : List ℕ) (ks : Forest Value) → WellFormedTree deep many (tree (value b v) ks)
    → length (encode (rooted (tree (value b v) ks))) ≤ 5 + length v + 21 * many
unfolding encode
tree-size deep many b v ks w = omega (arith, length-node 0 b v ks end, forest-size ks w.sound, w.few)

pub message-size : (m : Tree Value) → WellFormedTree message_levels_below message_nodes_below m → length (message_bytes m) ≤ message_room
message-size (tree (value b v) ks) w = omega (arith, tree-size message_levels_below message_nodes_below b v ks w, value-size b v w.root.valid)

pub session-tree-size : (F : Forest Value) → WellFormedTree session_levels session_nodes (tree empty F) → length (tree_bytes F) ≤ 1013
session-tree-size F w = omega (arith, tree-size session_levels session_nodes 6 [] F w)

-- ---- an entry of the queue

pub destination-size : (d : Destination) → length (destination_bytes d) ≡ 4
destination-size (outsider k) = refl
destination-size (waiting_row q n r) = refl

pub reply-size : (to : Optional Destination) → length (reply_bytes to) ≡ 4
reply-size none = length-zeros 4
reply-size (some d) = destination-size d

pub entry-size : (m : Queued) → length (message_bytes m.message) ≤ message_room → length (entry_bytes m) ≡ entry_size
unfolding entry_bytes
entry-size m h =
    let l = message_bytes m.message in
    let a : length (reply_bytes m.reply_to ++ padded message_room l) ≡ 340 =
    length-append (reply_bytes m.reply_to) (padded message_room l) ∙ omega (arith, reply-size m.reply_to, length-padded message_room l h) in
    omega (arith, a)

pub queue-size : (n : ℕ) (l : List Queued) → AllMessages l → length (queue_bytes n l) ≡ entry_size * n
unfolding queue_bytes AllMessages
queue-size zero l h = refl
queue-size (suc n) [] h = length-append (zeros entry_size) (queue_bytes n []) ∙ omega (arith, length-zeros entry_size, queue-size n [] tt)
queue-size (suc n) (m ∷ l) h =
    length-append (entry_bytes m) (queue_bytes n l) ∙ omega (arith, entry-size m (message-size m.message h.0), queue-size n l h.1)

-- ---- rows, slots, states

pub progress-size : (p : Progress) → length (progress_bytes p) ≡ row_size
unfolding progress_bytes
progress-size undone = length-zeros row_size
progress-size done = ap suc (length-zeros 5)
progress-size waits = ap suc (length-zeros 5)
progress-size (received d) = ap (λ (n : ℕ). suc (suc n)) (destination-size d)
progress-size (taken k) = ap (λ (n : ℕ). suc (suc n)) (length-zeros 4)

pub rows-size : (p : Progresses) → length (rows_bytes p) ≡ rows_size
rows-size p = length-joined (λ r. progress_bytes (p r)) row_size (λ r. progress-size (p r)) 0 256

-- What a slot's bytes are made of: where each part ends.
pub record SessionFits (S : Session) : Type 0 where
  pub tree_fits : length (tree_bytes S.tree) ≤ tree_room
  pub queue_fits : length (queue_bytes 4 S.queue) ≡ queue_size

pub made-fits : {S : Session} → WellMade S → SessionFits S
made-fits {S} w = record {
  tree_fits = omega (arith, session-tree-size S.tree w.bounded);
  queue_fits = queue-size 4 S.queue w.messages;
}

pub slot-size : (x : Slot) → MadeSlot x → length (slot_bytes x) ≡ slot_size
unfolding slot_bytes
slot-size free w = length-zeros slot_size
slot-size (live S) w =
    let f = made-fits w in
    simp (length-append, length-zeros) (omega (arith, head-size S, f.tree_fits, f.queue_fits, rows-size S.progress))

-- Every slot of the state takes its 4,096 bytes.
pub record Sized (G : State) : Type 0 where
  pub each : (k : ℕ) → length (slot_bytes (slot_at G k)) ≡ slot_size

pub shape-sized : {N : Network} {rows : ℕ} {G : State} → HasShape N rows G → Sized G
shape-sized {G = G} h = record { each = λ k. by k (dec_lt k 16) }
  where
    by : (k : ℕ) → Dec (k < 16) → length (slot_bytes (slot_at G k)) ≡ slot_size
    by k (yes l) = slot-size (slot_at G k) (h.made (k / 4) (k % 4) (omega arith) (omega arith))
    by k (no l) = rw (h.elsewhere (k / 4) (k % 4) (inl (omega arith))) (slot-size free tt)

pub sized-length : {G : State} → Sized G → length (state_bytes G) ≡ 65536
unfolding state_bytes
sized-length {G} z = length-joined (λ k. slot_bytes (slot_at G k)) slot_size z.each 0 16

-- "65,536 bytes".
pub state-length : {N : Network} {rows : ℕ} {G : State} → HasShape N rows G → length (state_bytes G) ≡ 65536
state-length h = sized-length (shape-sized h)
