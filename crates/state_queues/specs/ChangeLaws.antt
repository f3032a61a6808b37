-- Taking a message out of the queue of a live session and queueing one more: the slot's bytes are then those of the session with the changed
-- queue, and all other bytes of the state stay. Each law has the premises that a caller's code leaves.
use Rattle.std.specs.Prelude.{◌≡◌, Bool, ℕ, zero, suc, ◌+◌, ◌-◌, ◌*◌, ◌≤◌, ◌<◌, ltb}
use Rattle.std.proofs.Math.Path.{refl, sym, ap, subst}
use Rattle.std.proofs.Common.{◌∙◌, take-append-drop, length-take-le, lt-ltb}
use mathlib.Core.List.{List, [], ◌∷◌, ◌++◌, append-nil}
use native.Mathlib.Omega.{arith}
use Rattle.std.proofs.Math.ListN.{length, take, drop, length-append, length-drop}
use Rattle.std.proofs.Math.Seq.{drop-length}
use Rattle.tree_forest.specs.Forest.{Tree}
use Rattle.scalar.specs.Value.{Value}
use Rattle.basics.specs.Choice.{pick}
use Rattle.network_syntax.specs.Syntax.{Optional}
use Rattle.wire.specs.Wire.{u16_at, part, with_part}
use Rattle.wire.specs.WireLaws.{length-with_part}
use Rattle.tree.specs.Encode.{WellFormedTree}
use Rattle.tree_forest.specs.Limits.{message_levels_below, message_nodes_below}
use Rattle.state.specs.Places.{slot_size, message_room, entry_size, queue_size, queue_place, slot_start, entry_start}
use Rattle.state.specs.Session.{Destination, Queued, Session, with_queue, Slot, live, State, set_slot}
use Rattle.state.specs.Bytes.{zeros, padded, reply_kind, reply_bytes, message_bytes, entry_bytes, queue_bytes, slot_bytes, state_bytes}
use Rattle.wire.specs.Wire.{u16_bytes}
use Rattle.state.specs.Bytes.{read_entry, read_session}
use Rattle.state.specs.Shape.{AllMessages, WellMade}
use Rattle.state.proofs.PartLaws.{length-zeros, HoldsAt, holds-first, holds-rest, holds-part, replace-within}
use Rattle.state.proofs.SizeLaws.{message-size, reply-size, entry-size, queue-size, made-fits, Sized, slot-size}
use Rattle.state.proofs.HoldLaws.{holds-u16}
use Rattle.state.proofs.ReadLaws.{read-entry, holds-entry, slot-parts, read-session, state-slot}
use Rattle.state.proofs.ChangeLaws.{set-bytes, change-queue, append-bytes, remove-bytes}
use Rattle.state.proofs.KeepLaws.{append-messages, remove-messages, made-queue}
use Rattle.state.specs.Queue.{nothing, message, oldest}
use Rattle.state_queues.specs.ReadLaws.{oldest-nothing, oldest-below, oldest-message}
use Rattle.state_queues.specs.Queue.{message_span, oldest_in, without, removed, entry_head, entry_of, pushed}
use Rattle.std.specs.Prelude.{Option, Some, None}

-- ---- a message of the queue and those before and after it

record Split (k : ℕ) (l : List Queued) : Type 0 where
  before : List Queued
  here : Queued
  after : List Queued
  whole : l ≡ before ++ (here ∷ after)
  index : length before ≡ k
  others : without k l ≡ before ++ after

split : (k : ℕ) (l : List Queued) → k < length l → Split k l
unfolding without
split k [] h = absurd (omega arith)
split zero (m ∷ l) h = record { before = []; here = m; after = l; whole = refl; index = refl; others = refl }
split (suc k) (m ∷ l) h =
    let x = split k l (omega arith) in
    record {
      before = m ∷ x.before;
      here = x.here;
      after = x.after;
      whole = ap (λ (z : List Queued). m ∷ z) x.whole;
      index = ap suc x.index;
      others = ap (λ (z : List Queued). m ∷ z) x.others;
    }

-- The message of the entry k stands whole at its place, and is a message.
pub record EntryStands (s : List ℕ) (slot k : ℕ) : Type 0 where
  pub bytes : part s (message_span s slot k).start (message_span s slot k).len ≡ message_bytes (read_entry s (entry_start slot k)).message
  pub small : (message_span s slot k).len ≤ message_room
  pub inside : (message_span s slot k).start + (message_span s slot k).len ≤ length s
  pub good : WellFormedTree message_levels_below message_nodes_below (read_entry s (entry_start slot k)).message

message-here : (a : List Queued) (m : Queued) (b : List Queued) → AllMessages (a ++ (m ∷ b))
    → AllMessages a × WellFormedTree message_levels_below message_nodes_below m.message
unfolding AllMessages
message-here [] m b w = (tt, w.0)
message-here (c ∷ a) m b w = let r = message-here a m b w.1 in ((w.0, r.0), r.1)

entry-stands : {s : List ℕ} {slot k : ℕ} (m : Queued) → WellFormedTree message_levels_below message_nodes_below m.message
    → HoldsAt s (entry_start slot k) (entry_bytes m)
    → entry_start slot k + entry_size ≤ length s → EntryStands s slot k
unfolding entry_bytes message_span
entry-stands {s} {slot} {k} m good h room =
    let at = entry_start slot k in
    let l = message_bytes m.message in
    let len : u16_at s (at + 2) ≡ length l = holds-u16 (length l) (holds-rest ((m.operation + 1) ∷ reply_kind m.reply_to ∷ []) _ 2 refl h) in
    let tail = holds-rest ((m.operation + 1) ∷ reply_kind m.reply_to ∷ u16_bytes (length l)) (reply_bytes m.reply_to ++ padded message_room l) 4 refl h in
    let b = holds-first l _ (holds-rest (reply_bytes m.reply_to) (padded message_room l) 4 (reply-size m.reply_to) tail) in
    let e : at + 4 + 4 ≡ at + 8 = omega arith in
    let r : read_entry s at ≡ m = read-entry m good h in
    record {
      bytes =
          ap (λ (i : ℕ). part s i (u16_at s (at + 2))) (sym e)
          ∙ (holds-part b (u16_at s (at + 2)) (sym len) ∙ ap (λ (x : Queued). message_bytes x.message) (sym r));
      small = omega (arith, len, message-size m.message good);
      inside = omega (arith, len, message-size m.message good, room);
      good = subst (λ (x : Queued). WellFormedTree message_levels_below message_nodes_below x.message) (sym r) good;
    }

-- ---- a session with a message less, or one more, is a session

module _ {S : Session} (made : WellMade S) where
  pub remove-made : (k : ℕ) → k < length S.queue → WellMade (with_queue S (without k S.queue))
  remove-made k h =
      let x = split k S.queue h in
      let all : AllMessages (x.before ++ (x.here ∷ x.after)) = subst AllMessages x.whole made.messages in
      let n = length-append x.before x.after in
      let o = length-append x.before (x.here ∷ x.after) in
      made-queue made (without k S.queue) (omega (arith, ap length x.others, ap length x.whole, n, o, made.up_to_four))
      (subst AllMessages (sym x.others) (remove-messages x.before x.here x.after all))

  pub push-made : (w : ℕ) (to : Optional Destination) (m : Tree Value) → length S.queue < 4 → WellFormedTree message_levels_below message_nodes_below m
      → WellMade (with_queue S (S.queue ++ (record { operation = w; message = m; reply_to = to } ∷ [])))
  push-made w to m h good =
      let new : Queued = record { operation = w; message = m; reply_to = to } in
      made-queue made (S.queue ++ (new ∷ [])) (omega (arith, length-append S.queue (new ∷ []), h)) (append-messages new S.queue good made.messages)

-- ---- a live slot

module _ {s : List ℕ} {slot : ℕ} {S : Session} (made : WellMade S) (holds : HoldsAt s slot (slot_bytes (live S))) where
  slot-inside : slot + slot_size ≤ length s
  slot-inside = omega (arith, slot-size (live S) made, length-drop slot s, ap length holds.bytes, length-append (slot_bytes (live S)) holds.after)

  queue-holds : HoldsAt s (slot + queue_place) (queue_bytes 4 S.queue)
  queue-holds = (slot-parts S (made-fits made) holds).queue

  queue-part : part s (slot + queue_place) queue_size ≡ queue_bytes 4 S.queue
  queue-part = holds-part queue-holds queue_size (made-fits made).queue_fits

  -- The bytes once the queue is another.
  queue-changed : (l : List Queued) → length (queue_bytes 4 l) ≡ queue_size
      → with_part s slot (slot_bytes (live (with_queue S l))) ≡ with_part s (slot + queue_place) (queue_bytes 4 l)
  queue-changed l e =
      let p = holds-part holds slot_size (slot-size (live S) made) in
      ap (with_part s slot) (change-queue S (made-fits made) l e)
      ∙ (ap (λ (y : List ℕ). with_part s slot (with_part y queue_place (queue_bytes 4 l))) (sym p)
      ∙ replace-within s slot slot_size queue_place (queue_bytes 4 l) slot-inside (omega (arith, e)))

  -- The bytes once what stands from j on in the queue is other.
  queue-end : (j : ℕ) (y : List ℕ) → j + length y ≡ queue_size
      → with_part s (slot + queue_place) (take j (queue_bytes 4 S.queue) ++ y) ≡ with_part s (slot + queue_place + j) y
  queue-end j y e =
      let q = queue_bytes 4 S.queue in
      let n : drop (j + length y) q ≡ [] = ap (λ (i : ℕ). drop i q) (e ∙ sym (made-fits made).queue_fits) ∙ drop-length q in
      let a : with_part q j y ≡ take j q ++ y = ap (λ (z : List ℕ). take j q ++ (y ++ z)) n ∙ ap (λ (z : List ℕ). take j q ++ z) (append-nil y) in
      ap (with_part s (slot + queue_place)) (sym a)
      ∙ (ap (λ (z : List ℕ). with_part s (slot + queue_place) (with_part z j y)) (sym queue-part)
      ∙ replace-within s (slot + queue_place) queue_size j y (omega (arith, slot-inside)) (omega (arith, e)))

  -- ---- what is read

  pub live-queue : (read_session s slot).queue ≡ S.queue
  live-queue = ap (λ (T : Session). T.queue) (read-session S made holds)

  pub live-entry : (k : ℕ) → k < length S.queue → EntryStands s slot k
  live-entry k h =
      let x = split k S.queue h in
      let all : AllMessages (x.before ++ (x.here ∷ x.after)) = subst AllMessages x.whole made.messages in
      let w = message-here x.before x.here x.after all in
      let q = subst (λ (l : List Queued). HoldsAt s (slot + queue_place) (queue_bytes 4 l)) x.whole queue-holds in
      let e = holds-entry 4 x.before x.here x.after (omega (arith, x.index, h, made.up_to_four)) w.0 q in
      entry-stands x.here w.1 (subst (λ (i : ℕ). HoldsAt s (entry_start slot i) (entry_bytes x.here)) x.index e)
      (omega (arith, slot-inside, h, made.up_to_four))

  module _ (w : ℕ) {r : Option ℕ} (is : r ≡ oldest_in w (read_session s slot).queue) where
    pub live-nothing : r ≡ None → oldest w S.queue ≡ nothing
    live-nothing e = ap (oldest w) (sym live-queue) ∙ oldest-nothing s slot w is e

    pub live_below : (k : ℕ) → r ≡ Some k → k < length S.queue
    live_below k e = omega (arith, ap length live-queue, oldest-below s slot w is k e)

    pub live-oldest : (k : ℕ) → r ≡ Some k → oldest w S.queue ≡ message (read_entry s (entry_start slot k)) (without k S.queue)
    live-oldest k e =
        ap (oldest w) (sym live-queue)
        ∙ (oldest-message s slot w is k e ∙ ap (λ (l : List Queued). message (read_entry s (entry_start slot k)) (without k l)) live-queue)

  -- ---- taking one out

  -- What stands past the entry of the k-th message.
  queue-rest : (k : ℕ) → k < 4 → drop (entry_size * k + entry_size) (queue_bytes 4 S.queue) ≡ part s (entry_start slot k + entry_size) (entry_size * (3 - k))
  queue-rest k h =
      let q = queue_bytes 4 S.queue in
      let j = entry_size * k + entry_size in
      let f : length q ≡ queue_size = (made-fits made).queue_fits in
      let a : HoldsAt s (slot + queue_place) (take j q ++ drop j q) = subst (HoldsAt s (slot + queue_place)) (sym (take-append-drop j q)) queue-holds in
      let b = holds-rest (take j q) (drop j q) j (length-take-le j q (omega (arith, f, h))) a in
      let e : slot + queue_place + j ≡ entry_start slot k + entry_size = omega arith in
      sym (ap (λ (i : ℕ). part s i (entry_size * (3 - k))) (sym e) ∙ holds-part b (entry_size * (3 - k)) (length-drop j q ∙ omega (arith, f, h)))

  pub remove-live : (k : ℕ) → k < length S.queue → removed s slot k ≡ with_part s slot (slot_bytes (live (with_queue S (without k S.queue))))
  unfolding removed
  remove-live k h =
      let x = split k S.queue h in
      let a = x.before in
      let b = x.after in
      let four = made.up_to_four in
      let all : AllMessages (a ++ (x.here ∷ b)) = subst AllMessages x.whole made.messages in
      let few : length (a ++ (x.here ∷ b)) ≤ 4 = subst (λ (z : List Queued). length z ≤ 4) x.whole four in
      let q = queue_bytes 4 S.queue in
      let r : queue_bytes 4 (a ++ b) ≡ take (entry_size * k) q ++ (drop (entry_size * k + entry_size) q ++ zeros entry_size) =
      remove-bytes 4 a x.here b all few
      ∙ (ap (λ (z : List Queued). take (entry_size * length a) (queue_bytes 4 z)
      ++ (drop (entry_size * length a + entry_size) (queue_bytes 4 z) ++ zeros entry_size)) (sym x.whole)
      ∙ ap (λ (i : ℕ). take (entry_size * i) q ++ (drop (entry_size * i + entry_size) q ++ zeros entry_size)) x.index) in
      let y = drop (entry_size * k + entry_size) q ++ zeros entry_size in
      let n : entry_size * k + length y ≡ queue_size =
      omega (
        arith,
        length-append (drop (entry_size * k + entry_size) q) (zeros entry_size),
        length-drop (entry_size * k + entry_size) q,
        length-zeros entry_size,
        (made-fits made).queue_fits,
        h,
        four,
      ) in
      sym (ap (λ (z : List Queued). with_part s slot (slot_bytes (live (with_queue S z)))) x.others
      ∙ (queue-changed (a ++ b) (queue-size 4 (a ++ b) (remove-messages a x.here b all))
      ∙ (ap (with_part s (slot + queue_place)) r
      ∙ (queue-end (entry_size * k) y n ∙ ap (λ (z : List ℕ). with_part s (entry_start slot k) (z ++ zeros entry_size)) (queue-rest k (omega (arith, h, four)))))))

  -- ---- one more

  pub push-live : (w : ℕ) (to : Optional Destination) (m : Tree Value) (l : List ℕ) → length S.queue < 4 → l ≡ message_bytes m → length l ≤ message_room
      → pushed s slot w to l ≡ with_part s slot (slot_bytes (live (with_queue S (S.queue ++ (record { operation = w; message = m; reply_to = to } ∷ [])))))
  unfolding pushed
  push-live w to m l h e small =
      let new : Queued = record { operation = w; message = m; reply_to = to } in
      let q = queue_bytes 4 S.queue in
      let n = length S.queue in
      let fits : length (message_bytes m) ≤ message_room = omega (arith, ap length e, small) in
      let size : length (entry_bytes new) ≡ entry_size = entry-size new fits in
      let a = append-bytes new fits 4 S.queue h made.messages in
      let z : length (queue_bytes 4 (S.queue ++ (new ∷ []))) ≡ queue_size =
      ap length a ∙ (length-with_part q (entry_size * n) (entry_bytes new) (omega (arith, size, h, (made-fits made).queue_fits)) ∙ (made-fits made).queue_fits) in
      let r : length (read_session s slot).queue ≡ n = ap (λ (T : Session). length T.queue) (read-session S made holds) in
      let b : with_part s (slot + queue_place) (with_part q (entry_size * n) (entry_bytes new)) ≡ with_part s (entry_start slot n) (entry_bytes new) =
      ap (λ (y : List ℕ). with_part s (slot + queue_place) (with_part y (entry_size * n) (entry_bytes new))) (sym queue-part)
      ∙ replace-within s (slot + queue_place) queue_size (entry_size * n) (entry_bytes new) (omega (arith, slot-inside)) (omega (arith, size, h)) in
      ap (λ (i : ℕ). pick (ltb i 4) (with_part s (entry_start slot i) (entry_of w to l)) s) r
      ∙ (ap (λ (t : Bool). pick t (with_part s (entry_start slot n) (entry_of w to l)) s) (lt-ltb n 4 h)
      ∙ (ap (λ (y : List ℕ). with_part s (entry_start slot n) (entry_of w to y)) e
      ∙ (ap (with_part s (entry_start slot n)) (entry-same w to m)
      ∙ sym (queue-changed (S.queue ++ (new ∷ [])) z ∙ (ap (with_part s (slot + queue_place)) a ∙ b)))))
    where
      entry-same : (w : ℕ) (to : Optional Destination) (m : Tree Value)
          → entry_of w to (message_bytes m) ≡ entry_bytes (record { operation = w; message = m; reply_to = to })
      entry-same w to m = unfold entry_head entry_bytes in refl

-- ---- in a state

module _ {G : State} (sized : Sized G) (q n : ℕ) (i : q < 4) (j : n < 4) {S : Session} (lives : G q n ≡ live S) (made : WellMade S) where
  slot-holds : HoldsAt (state_bytes G) (slot_start q n) (slot_bytes (live S))
  slot-holds = subst (λ (x : Slot). HoldsAt (state_bytes G) (slot_start q n) (slot_bytes x)) lives (state-slot sized q n i j)

  pub remove-state : (k : ℕ) → k < length S.queue
      → removed (state_bytes G) (slot_start q n) k ≡ state_bytes (set_slot G q n (live (with_queue S (without k S.queue))))
  remove-state k h =
      let x : Slot = live (with_queue S (without k S.queue)) in
      remove-live made slot-holds k h ∙ sym (set-bytes sized q n x (slot-size x (remove-made made k h)) i j)

  pub push-state : (w : ℕ) (to : Optional Destination) (m : Tree Value) (l : List ℕ) → length S.queue < 4 → l ≡ message_bytes m
      → WellFormedTree message_levels_below message_nodes_below m
      → pushed (state_bytes G) (slot_start q n) w to l
      ≡ state_bytes (set_slot G q n (live (with_queue S (S.queue ++ (record { operation = w; message = m; reply_to = to } ∷ [])))))
  push-state w to m l h e good =
      let x : Slot = live (with_queue S (S.queue ++ (record { operation = w; message = m; reply_to = to } ∷ []))) in
      push-live made slot-holds w to m l h e (omega (arith, ap length e, message-size m good))
      ∙ sym (set-bytes sized q n x (slot-size x (push-made made w to m h good)) i j)
