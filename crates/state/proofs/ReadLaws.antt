-- What the bytes of each part of a state are read as: the part itself. So `read-state`: a state of the shape is read back from its bytes.
use Rattle.std.specs.Prelude.{◌≡◌, refl, List, [], ◌∷◌, ◌++◌, false, ◌&&◌, ℕ, zero, suc, ◌+◌, ◌-◌, ◌*◌, ◌/◌, ◌%◌, ◌≤◌, ◌<◌, length, eqb, ltb}
use Rattle.std.proofs.Common.{sym, ap, inl, inr, add-zero, zero-add, arith, ne_eqb, lt-ltb, le-ltb}
use Rattle.std.proofs.Math.Path.{fun_ext}
use Rattle.std.proofs.Math.Decide.{dec_lt}
use Rattle.tree_forest.specs.Forest.{Forest, Tree, tree, children_of}
use Rattle.scalar.specs.Value.{Value}
use Rattle.basics.specs.Choice.{pick}
use Rattle.network_syntax.specs.Syntax.{Optional, none, some, Network}
use Rattle.wire.specs.Wire.{byte_at, u16_at}
use Rattle.tree.specs.Encode.{empty, WellFormedTree}
use Rattle.tree_forest.specs.Limits.{message_levels_below, message_nodes_below, session_levels, session_nodes}
use Rattle.tree.specs.Decode.{decode, decode_message}
use Rattle.tree.specs.DecodeLaws.{decode-complete}
use Rattle.state.specs.Places.{slot_size, head_size, tree_room, message_room, entry_size, queue_size, row_size}
use Rattle.state.specs.Places.{rows_size, tree_place, queue_place, rows_place, kept_place, kept_size, slot_start}
use Rattle.state.specs.Session.{Destination, outsider, waiting_row, Progress, undone, done, waits, received}
use Rattle.state.specs.Session.{taken, Progresses, Queued, Session, session_of, Slot, free, live, State}
use Rattle.state.specs.Bytes.{zeros, joined, padded, destination_kind, destination_bytes, reply_kind, reply_bytes}
use Rattle.state.specs.Bytes.{message_bytes, entry_bytes, queue_bytes, progress_bytes, rows_bytes, tree_bytes}
use Rattle.state.specs.Bytes.{head_bytes, slot_bytes, slot_at, state_bytes, read_destination, read_reply, tree_or}
use Rattle.state.specs.Bytes.{read_entry, read_queue, read_progress, read_row, read_session, read_slot, read_state}
use Rattle.wire.specs.Wire.{u16_bytes, u32_bytes}
use Rattle.state.specs.Shape.{AllMessages, WellMade, MadeSlot, HasShape, Stands}
use Rattle.state.proofs.PartLaws.{length-padded, HoldsAt, holds-whole, holds-first, holds-rest, holds-part, holds-joined}
use Rattle.state.proofs.HoldLaws.{holds-head, holds-tail, holds-zeros, holds-u16, holds-u32}
use Rattle.state.proofs.HeadLaws.{head-size, head_live, head-length, head-key}
use Rattle.state.proofs.SizeLaws.{message-size, entry-size, reply-size, progress-size, rows-size, SessionFits, made-fits, Sized, shape-sized}

-- ---- where replies go

pub read-destination : {s : List ℕ} {at : ℕ} (d : Destination) → HoldsAt s at (destination_bytes d) → read_destination s (destination_kind d) at ≡ d
unfolding read_destination
read-destination (outsider k) h = ap outsider (holds-u32 k h)
read-destination (waiting_row q n r) h =
    let t = holds-tail h in
    rw (holds-head h, holds-head t, holds-u16 r (holds-rest (q ∷ n ∷ []) (u16_bytes r) 2 refl h))

pub read-reply : {s : List ℕ} {at : ℕ} (to : Optional Destination) → HoldsAt s at (reply_bytes to) → read_reply s (reply_kind to) at ≡ to
unfolding read_reply
read-reply none h = refl
read-reply (some (outsider k)) h = ap some (read-destination (outsider k) h)
read-reply (some (waiting_row q n r)) h = ap some (read-destination (waiting_row q n r) h)

-- ---- a row's progress

pub read-progress : {s : List ℕ} {at : ℕ} (p : Progress) → HoldsAt s at (progress_bytes p) → read_progress s at ≡ p
unfolding read_progress progress_bytes
read-progress undone h = rw (holds-zeros (omega arith) h)
read-progress done h = rw (holds-head h)
read-progress waits h = rw (holds-head h)
read-progress (taken k) h = rw (holds-head h, holds-head (holds-tail h))
read-progress (received (outsider k)) h =
    rw (holds-head h) (ap received (read-destination (outsider k) (holds-rest (4 ∷ 0 ∷ []) (u32_bytes k) 2 refl h)))
read-progress (received (waiting_row q n r)) h =
    rw (holds-head h) (ap received (read-destination (waiting_row q n r) (holds-rest (5 ∷ 0 ∷ []) (q ∷ n ∷ u16_bytes r) 2 refl h)))

-- ---- an entry of the queue, and the queue

same-queued : (m : Queued) {o : ℕ} {t : Tree Value} {to : Optional Destination} → o ≡ m.operation → t ≡ m.message → to ≡ m.reply_to
    → record { operation = o; message = t; reply_to = to } ≡ m
same-queued m e f g = λ i. record { operation = e i; message = f i; reply_to = g i }

pub read-message : (m : Tree Value) → WellFormedTree message_levels_below message_nodes_below m → tree_or (decode_message (message_bytes m)) ≡ m
read-message m w = ap tree_or (decode-complete message_levels_below message_nodes_below (message_bytes m) m (record { bytes = refl; good = w }))

pub read-entry : {s : List ℕ} {at : ℕ} (m : Queued) → WellFormedTree message_levels_below message_nodes_below m.message → HoldsAt s at (entry_bytes m)
    → read_entry s at ≡ m
unfolding read_entry entry_bytes
read-entry {s} {at} m w h =
    let l = message_bytes m.message in
    let t = holds-tail h in
    let len : u16_at s (at + 2) ≡ length l = holds-u16 (length l) (holds-rest ((m.operation + 1) ∷ reply_kind m.reply_to ∷ []) _ 2 refl h) in
    let tail = holds-rest ((m.operation + 1) ∷ reply_kind m.reply_to ∷ u16_bytes (length l)) (reply_bytes m.reply_to ++ padded message_room l) 4 refl h in
    let bytes = holds-first l _ (holds-rest (reply_bytes m.reply_to) (padded message_room l) 4 (reply-size m.reply_to) tail) in
    let e : at + 8 ≡ at + 4 + 4 = omega arith in
    let op : m.operation + 1 - 1 ≡ m.operation = omega arith in
    same-queued m
    (rw (holds-head h) op)
    (rw (e, len, holds-part bytes (length l) refl) (read-message m.message w))
    (rw (holds-head t) (read-reply m.reply_to (holds-first (reply_bytes m.reply_to) (padded message_room l) tail)))

pub entry-used : {s : List ℕ} {at : ℕ} (m : Queued) → HoldsAt s at (entry_bytes m) → eqb (byte_at s at) 0 ≡ false
unfolding entry_bytes
entry-used {s} {at} m h = ne_eqb (byte_at s at) 0 (λ e. omega (arith, holds-head h))

pub read-queue : {s : List ℕ} {at : ℕ} (n : ℕ) (l : List Queued) → length l ≤ n → AllMessages l → HoldsAt s at (queue_bytes n l) → read_queue s n at ≡ l
unfolding read_queue queue_bytes AllMessages
read-queue zero [] i w h = refl
read-queue zero (m ∷ l) i w h = absurd (omega arith)
read-queue {s} {at} (suc n) [] i w h = rw (holds-zeros (omega arith) (holds-first (zeros entry_size) (queue_bytes n []) h))
read-queue {s} {at} (suc n) (m ∷ l) i w h =
    let a = holds-first (entry_bytes m) (queue_bytes n l) h in
    let b = holds-rest (entry_bytes m) (queue_bytes n l) entry_size (entry-size m (message-size m.message w.0)) h in
    rw (entry-used m a, read-entry m w.0 a, read-queue {s = s} {at = at + entry_size} n l (omega arith) w.1 b)

-- The entry of one message, and the first unused entry.
pub holds-entry : {s : List ℕ} {at : ℕ} (n : ℕ) (a : List Queued) (m : Queued) (b : List Queued) → length a < n → AllMessages a
    → HoldsAt s at (queue_bytes n (a ++ (m ∷ b))) → HoldsAt s (at + entry_size * length a) (entry_bytes m)
unfolding queue_bytes AllMessages
holds-entry zero a m b i w h = absurd (omega arith)
holds-entry {s} {at} (suc n) [] m b i w h = rw (add-zero at) (holds-first (entry_bytes m) (queue_bytes n b) h)
holds-entry {s} {at} (suc n) (c ∷ a) m b i w h =
    let e : at + entry_size * suc (length a) ≡ at + entry_size + entry_size * length a = omega arith in
    let r = holds-rest (entry_bytes c) (queue_bytes n (a ++ (m ∷ b))) entry_size (entry-size c (message-size c.message w.0)) h in
    rw e (holds-entry {s = s} {at = at + entry_size} n a m b (omega arith) w.1 r)

pub first-unused : {s : List ℕ} {at : ℕ} (n : ℕ) (l : List Queued) → length l < n → AllMessages l → HoldsAt s at (queue_bytes n l)
    → byte_at s (at + entry_size * length l) ≡ 0
unfolding queue_bytes AllMessages
first-unused zero l i w h = absurd (omega arith)
first-unused {s} {at} (suc n) [] i w h = rw (add-zero at) (holds-zeros (omega arith) (holds-first (zeros entry_size) (queue_bytes n []) h))
first-unused {s} {at} (suc n) (m ∷ l) i w h =
    let e : at + entry_size * suc (length l) ≡ at + entry_size + entry_size * length l = omega arith in
    rw e (first-unused {s = s} {at = at + entry_size} n l (omega arith) w.1 (holds-rest (entry_bytes m) (queue_bytes n l) entry_size (entry-size m (message-size m.message w.0)) h))

-- ---- a slot

-- Where the parts of a live slot's bytes stand.
pub record Parts (s : List ℕ) (at : ℕ) (S : Session) : Type 0 where
  pub head : HoldsAt s at (head_bytes S)
  pub tree : HoldsAt s (at + tree_place) (padded tree_room (tree_bytes S.tree))
  pub queue : HoldsAt s (at + queue_place) (queue_bytes 4 S.queue)
  pub rows : HoldsAt s (at + rows_place) (rows_bytes S.progress)
  pub kept : HoldsAt s (at + kept_place) (zeros kept_size)

pub slot-parts : {s : List ℕ} {at : ℕ} (S : Session) → SessionFits S → HoldsAt s at (slot_bytes (live S)) → Parts s at S
unfolding slot_bytes
slot-parts {s} {at} S f h =
    let t = tree_bytes S.tree in
    let q = queue_bytes 4 S.queue in
    let r = rows_bytes S.progress in
    let b : HoldsAt s (at + tree_place) (padded tree_room t ++ (q ++ (r ++ zeros kept_size))) = holds-rest (head_bytes S) _ head_size (head-size S) h in
    let c : HoldsAt s (at + queue_place) (q ++ (r ++ zeros kept_size)) =
    rw (further at tree_place tree_room) at (holds-rest (padded tree_room t) _ tree_room (length-padded tree_room t f.tree_fits) b) in
    let d : HoldsAt s (at + rows_place) (r ++ zeros kept_size) = rw (further at queue_place queue_size) at (holds-rest q _ queue_size f.queue_fits c) in
    record {
      head = holds-first (head_bytes S) _ h;
      tree = holds-first (padded tree_room t) _ b;
      queue = holds-first q _ c;
      rows = holds-first r _ d;
      kept = rw (further at rows_place rows_size) at (holds-rest r _ rows_size (rows-size S.progress) d);
    }
  where
    further : (at a b : ℕ) → at + a + b ≡ at + (a + b)
    further at a b = omega arith

pub read-tree : (F : Forest Value) → WellFormedTree session_levels session_nodes (tree empty F) → children_of (decode session_levels session_nodes (tree_bytes F)) ≡ F
read-tree F w = ap children_of (decode-complete session_levels session_nodes (tree_bytes F) (tree empty F) (record { bytes = refl; good = w }))

same-session : (S : Session) {F : Forest Value} {l : List Queued} {p : Progresses} {x : ℕ} → F ≡ S.tree → l ≡ S.queue → p ≡ S.progress
    → x ≡ S.key → session_of F l p x ≡ S
same-session S e f g h = λ i. session_of (e i) (f i) (g i) (h i)

-- The six bytes of the row r.
pub holds_row : {s : List ℕ} {at : ℕ} (p : Progresses) → HoldsAt s at (rows_bytes p) → (r : ℕ) → r < 256 → HoldsAt s (at + row_size * r) (progress_bytes (p r))
holds_row p h r l = rw (zero-add r) at (holds-joined (λ i. progress_bytes (p i)) row_size (λ i. progress-size (p i)) 0 256 r l h)

pub read-row : {s : List ℕ} {at : ℕ} (p : Progresses) → HoldsAt s at (rows_bytes p) → (r : ℕ) → r < 256 → read_progress s (at + row_size * r) ≡ p r
read-row p h r l = read-progress (p r) (holds_row p h r l)

pub read-rows : {s : List ℕ} (at : ℕ) (p : Progresses) → ((r : ℕ) → 256 ≤ r → p r ≡ undone) → HoldsAt s (at + rows_place) (rows_bytes p)
    → (λ (r : ℕ). pick (ltb r 256) (read_row s at r) undone) ≡ p
read-rows {s} at p w h = fun_ext (λ r. by r (dec_lt r 256))
  where
    by : (r : ℕ) → Dec (r < 256) → pick (ltb r 256) (read_row s at r) undone ≡ p r
    by r (yes l) = rw (lt-ltb r 256 l) (read-row p h r l)
    by r (no l) = rw (le-ltb r 256 (omega arith)) (sym (w r (omega arith)))

pub read-session : {s : List ℕ} {at : ℕ} (S : Session) → WellMade S → HoldsAt s at (slot_bytes (live S)) → read_session s at ≡ S
unfolding read_session
read-session {s} {at} S w h =
    let p = slot-parts S (made-fits w) h in
    let t = tree_bytes S.tree in
    same-session S
    (rw (head-length S p.head, holds-part (holds-first t _ p.tree) (length t) refl) (read-tree S.tree w.bounded))
    (read-queue 4 S.queue w.up_to_four w.messages p.queue)
    (read-rows at S.progress w.no_rows_past p.rows)
    (head-key S p.head)

pub read-slot : {s : List ℕ} {at : ℕ} (x : Slot) → MadeSlot x → HoldsAt s at (slot_bytes x) → read_slot s at ≡ x
unfolding read_slot slot_bytes
read-slot free w h = rw (holds-zeros (omega arith) h)
read-slot (live S) w h = rw (head_live S (slot-parts S (made-fits w) h).head) (ap live (read-session S w h))

-- ---- a state

-- The slot of a service and session stands at its start.
pub state-slot : {G : State} → Sized G → (q n : ℕ) → q < 4 → n < 4 → HoldsAt (state_bytes G) (slot_start q n) (slot_bytes (G q n))
unfolding state_bytes
state-slot {G} z q n i j =
    let f : ℕ → List ℕ = λ k. slot_bytes (slot_at G k) in
    let k = 4 * q + n in
    let a : k / 4 ≡ q = omega arith in
    let b : k % 4 ≡ n = omega arith in
    rw (zero-add (slot_size * k), zero-add k, a, b) at (holds-joined f slot_size z.each 0 16 k (omega arith) (holds-whole (joined f 0 16)))

pub read-state : {N : Network} {rows : ℕ} {G : State} → HasShape N rows G → read_state (state_bytes G) ≡ G
unfolding read_state
read-state {G = G} h = fun_ext (λ q. fun_ext (λ n. by q n (dec_lt q 4) (dec_lt n 4)))
  where
    by : (q n : ℕ) → Dec (q < 4) → Dec (n < 4) → pick (ltb q 4 && ltb n 4) (read_slot (state_bytes G) (slot_start q n)) free ≡ G q n
    by q n (yes i) (yes j) = rw (lt-ltb q 4 i, lt-ltb n 4 j) (read-slot (G q n) (h.made q n i j) (state-slot (shape-sized h) q n i j))
    by q n (yes i) (no j) = rw (lt-ltb q 4 i, le-ltb n 4 (omega arith)) (sym (h.elsewhere q n (inr (omega arith))))
    by q n (no i) j = rw (le-ltb q 4 (omega arith)) (sym (h.elsewhere q n (inl (omega arith))))

-- ---- bytes that stand for a state

module _ {N : Network} {rows : ℕ} {s : List ℕ} {G : State} (h : Stands N rows s G) (q n : ℕ) (i : q < 4) (j : n < 4) where
  pub stands-slot : HoldsAt s (slot_start q n) (slot_bytes (G q n))
  stands-slot = rw h.bytes (state-slot (shape-sized h.shape) q n i j)

  pub stands_read : read_slot s (slot_start q n) ≡ G q n
  stands_read = read-slot (G q n) (h.shape.made q n i j) stands-slot

  pub stands-free : G q n ≡ free → byte_at s (slot_start q n) ≡ 0
  unfolding slot_bytes
  stands-free e = holds-zeros {n = slot_size} (omega arith) (rw e at stands-slot)

  pub stands_live : (S : Session) → G q n ≡ live S → Parts s (slot_start q n) S
  stands_live S e = slot-parts S (made-fits (rw e at (h.shape.made q n i j))) (rw e at stands-slot)
