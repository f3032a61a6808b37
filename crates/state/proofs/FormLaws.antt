-- The tests of Form hold exactly where the bytes are the byte form of what is read from them.
use Rattle.std.specs.Prelude.{◌≡◌, Bool, ◌&&◌, drop, eqb, ltb}
use Rattle.std.proofs.Math.Path.{refl, sym}
use Rattle.std.proofs.Common.{ap, ◌∙◌, add-zero, mul-zero, mul-suc, take-append-drop, length-append}
use mathlib.Core.List.{List, [], ◌∷◌, ◌++◌, append-nil}
use Rattle.std.proofs.Math.Bool.{true, false}
use Prim.Native.Nat.{ℕ, zero, suc, ◌+◌, ◌-◌, ◌*◌, ◌/◌, ◌%◌, ◌≤◌, ◌<◌}
use Rattle.std.proofs.Math.Nat.{zero-add}
use native.Mathlib.Omega.{arith}
use Rattle.std.proofs.Math.Decide.{dec_lt}
use Rattle.std.proofs.Math.ListN.{length}
use Rattle.std.proofs.Math.Dec.{leb}
use borrow.Author.Tests.{eq-eqb, ne_eqb, eqb-true, eqb-false, leb-true, le-leb, lt-leb, lt-ltb}
use Rattle.tree_forest.specs.Forest.{Forest, tree, children_of}
use Rattle.scalar.specs.Value.{Value}
use Rattle.basics.specs.Choice.{pick}
use Rattle.basics.specs.TestLaws.{agree, and_left, and_right, and-true, and-false}
use Rattle.network_syntax.specs.Syntax.{Optional, none, some, Network}
use Rattle.wire.specs.Wire.{byte_at, u16_at, u32_at, part}
use Rattle.wire.specs.WireLaws.{length_part}
use Rattle.tree.specs.Encode.{Octets, WellFormedTree, empty}
use Rattle.tree_forest.specs.Limits.{message_levels_below, message_nodes_below, session_levels, session_nodes}
use Rattle.tree.specs.Decode.{decode, decode_message, is_message, is_session_tree}
use Rattle.tree.specs.DecodeLaws.{decode-complete, message-sound, message-complete, session-sound, session-complete}
use Rattle.tree.specs.EncodeLaws.{octets-part}
use Rattle.state.specs.Places.{slot_size, head_size, tree_room, message_room, entry_size, queue_size, row_size}
use Rattle.state.specs.Places.{rows_size, tree_place, queue_place, rows_place, kept_place, kept_size, slot_start}
use Rattle.state.specs.Session.{Destination, outsider, waiting_row, Progress, undone, done, waits}
use Rattle.state.specs.Session.{received, taken, Progresses, Queued, Session, Slot, free, live}
use Rattle.state.specs.Bytes.{zeros, joined, padded, reply_kind, reply_bytes, message_bytes, entry_bytes, queue_bytes, progress_bytes}
use Rattle.state.specs.Bytes.{rows_bytes, tree_bytes, head_bytes, slot_bytes, slot_at, state_bytes, read_destination, read_reply}
use Rattle.state.specs.Bytes.{tree_or, read_entry, read_queue, read_progress, tree_length, read_session, read_slot, read_state}
use Rattle.wire.specs.Wire.{u16_bytes, u32_bytes}
use Rattle.state.specs.Shape.{AllMessages, MadeSlot, suits_slot, suits_services, suits_all_keys, same_bytes, decode_state}
use Rattle.state.specs.Form.{all_zero, progress_form, rows_form, entry_form, queue_form, head_form, tree_form, live_form, slot_form, slots_stand, slots_form}
use Rattle.state.proofs.PartLaws.{length-padded, HoldsAt, holds-first, holds-rest, holds-part}
use Rattle.state.proofs.SizeLaws.{message-size, session-tree-size, entry-size, reply-size, progress-size}
use Rattle.state.proofs.SizeLaws.{rows-size, SessionFits, made-fits, slot-size, Sized, sized-length}
use Rattle.state.proofs.HoldLaws.{holds-head, holds-tail, holds-zeros, holds-u16, holds-nil, holds-join}
use Rattle.state.proofs.HoldLaws.{holds-cons, zero-holds, holds-zero, two-holds, u16-holds, u32-holds}
use Rattle.state.proofs.HeadLaws.{head-size, head_live, head-length, head-tested, tested-head}
use Rattle.state.proofs.ReadLaws.{entry-used, Parts, slot-parts, state-slot}
use Rattle.state.proofs.FreshLaws.{no-queue}
use Rattle.state.proofs.ShapeLaws.{services-suit, suit-services, same_true, same-equal, below_next, entry-made, session-made, slot-made}

-- ---- a row's progress

holds-progress : {s : List ℕ} {at : ℕ} (p : Progress) → HoldsAt s at (progress_bytes p) → progress_form s at ≡ true
unfolding progress_form progress_bytes zeros
holds-progress undone h = rw (holds-head h) (holds-zero 5 (holds-tail h))
holds-progress done h = rw (holds-head h) (holds-zero 5 (holds-tail h))
holds-progress waits h = rw (holds-head h) (holds-zero 5 (holds-tail h))
holds-progress {s} {at} (taken k) h = rw (holds-head h) (holds-zero 4 (holds-rest (3 ∷ k ∷ []) (zeros 4) 2 refl h))
holds-progress (received (outsider k)) h = rw (holds-head h, holds-head (holds-tail h))
holds-progress (received (waiting_row q n r)) h = rw (holds-head h, holds-head (holds-tail h))

-- A first byte that a progress can have.
data Code : ℕ → Type 0 where
  undone' : Code 0
  done' : Code 1
  waits' : Code 2
  taken' : Code 3
  outsider' : Code 4
  waiting_row' : Code 5

code : (c : ℕ) → c ≤ 5 → Code c
code zero i = undone'
code (suc zero) i = done'
code (suc (suc zero)) i = waits'
code (suc (suc (suc zero))) i = taken'
code (suc (suc (suc (suc zero)))) i = outsider'
code (suc (suc (suc (suc (suc zero))))) i = waiting_row'
code (suc (suc (suc (suc (suc (suc c)))))) i = absurd (omega arith)

progress-code : (s : List ℕ) (at : ℕ) → progress_form s at ≡ true → byte_at s at ≤ 5
unfolding progress_form
progress-code s at h = by (dec_lt (byte_at s at) 6)
  where
    by : Dec (byte_at s at < 6) → byte_at s at ≤ 5
    by (yes l) = omega arith
    by (no l) =
        let c = byte_at s at in
        let f : false ≡ true =
        rw (ne_eqb c 3 (λ e. omega arith), ne_eqb c 4 (λ e. omega arith), ne_eqb c 5 (λ e. omega arith), lt-leb c 5 (omega arith)) at h in
        absurd (let z : ◌≡◌ {A = ℕ} 0 1 = cc in omega arith)

module _ (s : List ℕ) (o : Octets s) where
  waiting-holds : (at : ℕ) → at + 4 ≤ length s → HoldsAt s at (byte_at s at ∷ byte_at s (at + 1) ∷ u16_bytes (u16_at s (at + 2)))
  waiting-holds at i =
      holds-join (byte_at s at ∷ byte_at s (at + 1) ∷ []) (u16_bytes (u16_at s (at + 2))) 2 refl
      (two-holds s o at (omega arith) refl refl) (u16-holds s o (at + 2) (omega arith))

  progress-holds : (at : ℕ) → at + row_size ≤ length s → progress_form s at ≡ true → HoldsAt s at (progress_bytes (read_progress s at))
  unfolding progress_form read_progress progress_bytes read_destination zeros
  progress-holds at i h = by (byte_at s at) refl (code (byte_at s at) (progress-code s at h))
    where
      by : (c : ℕ) → byte_at s at ≡ c → Code c → HoldsAt s at (progress_bytes (read_progress s at))
      by c e undone' = rw e (holds-cons (omega arith) e (zero-holds s (at + 1) 5 (omega arith) (rw e at h)))
      by c e done' = rw e (holds-cons (omega arith) e (zero-holds s (at + 1) 5 (omega arith) (rw e at h)))
      by c e waits' = rw e (holds-cons (omega arith) e (zero-holds s (at + 1) 5 (omega arith) (rw e at h)))
      by c e taken' =
          rw e (holds-join (3 ∷ byte_at s (at + 1) ∷ []) (zeros 4) 2 refl (two-holds s o at (omega arith) e refl)
          (zero-holds s (at + 2) 4 (omega arith) (rw e at h)))
      by c e outsider' =
          let z = eqb-true (byte_at s (at + 1)) 0 (rw e at h) in
          rw e (holds-join (4 ∷ 0 ∷ []) (u32_bytes (u32_at s (at + 2))) 2 refl (two-holds s o at (omega arith) e z) (u32-holds s o (at + 2) (omega arith)))
      by c e waiting_row' =
          let z = eqb-true (byte_at s (at + 1)) 0 (rw e at h) in
          rw e (holds-join (5 ∷ 0 ∷ []) _ 2 refl (two-holds s o at (omega arith) e z) (waiting-holds (at + 2) (omega arith)))

-- ---- rows

holds_rows : {s : List ℕ} {at : ℕ} (p : Progresses) (k n : ℕ) → HoldsAt s at (joined (λ r. progress_bytes (p r)) k n) → rows_form s at n ≡ true
unfolding rows_form joined
holds_rows p k zero h = refl
holds_rows {s = s} {at = at} p k (suc n) h =
    let rest = joined (λ r. progress_bytes (p r)) (suc k) n in
    let a = holds-first (progress_bytes (p k)) rest h in
    let b = holds-rest (progress_bytes (p k)) rest row_size (progress-size (p k)) h in
    rw (holds-progress (p k) a, holds_rows {s = s} {at = at + row_size} p (suc k) n b)

rows-hold : (s : List ℕ) → Octets s → (p : Progresses) (at k n : ℕ) → at + row_size * n ≤ length s
    → ((i : ℕ) → i < n → p (k + i) ≡ read_progress s (at + row_size * i))
    → rows_form s at n ≡ true → HoldsAt s at (joined (λ r. progress_bytes (p r)) k n)
unfolding rows_form joined
rows-hold s o p at k zero i e h = holds-nil s at
rows-hold s o p at k (suc n) i e h =
    let f : p k ≡ read_progress s at = rw (add-zero k, add-zero at) at (e 0 (omega arith)) in
    let a = progress_form s at in
    let b = rows_form s (at + row_size) n in
    let one : HoldsAt s at (progress_bytes (p k)) = rw f (progress-holds s o at (omega arith) (and_left a b h)) in
    let rest = rows-hold s o p (at + row_size) (suc k) n (omega arith) (λ i l. later i (e (suc i) (omega arith))) (and_right a b h) in
    holds-join (progress_bytes (p k)) (joined (λ r. progress_bytes (p r)) (suc k) n) row_size (progress-size (p k)) one rest
  where
    later : (i : ℕ) → p (k + suc i) ≡ read_progress s (at + row_size * suc i) → p (suc k + i) ≡ read_progress s (at + row_size + row_size * i)
    later i g =
        let u : suc k + i ≡ k + suc i = omega arith in
        let v : at + row_size + row_size * i ≡ at + row_size * suc i = omega arith in
        rw (u, v) g

-- ---- an entry of the queue

small-kind : (to : Optional Destination) → leb (reply_kind to) 2 ≡ true
small-kind none = refl
small-kind (some (outsider k)) = refl
small-kind (some (waiting_row q n r)) = refl

holds-reply : {s : List ℕ} {at : ℕ} (to : Optional Destination) → HoldsAt s at (reply_bytes to) → pick (eqb (reply_kind to) 0) (all_zero s at 4) true ≡ true
holds-reply none h = holds-zero 4 h
holds-reply (some (outsider k)) h = refl
holds-reply (some (waiting_row q n r)) h = refl

holds-entry-form : {s : List ℕ} {at : ℕ} (m : Queued) → WellFormedTree message_levels_below message_nodes_below m.message → HoldsAt s at (entry_bytes m)
    → entry_form s at ≡ true
unfolding entry_form entry_bytes
holds-entry-form {s} {at} m w h =
    let to = m.reply_to in
    let l = message_bytes m.message in
    let tail = holds-rest ((m.operation + 1) ∷ reply_kind to ∷ u16_bytes (length l)) (reply_bytes to ++ padded message_room l) 4 refl h in
    let k : byte_at s (at + 1) ≡ reply_kind to = holds-head (holds-tail h) in
    let len : u16_at s (at + 2) ≡ length l = holds-u16 (length l) (holds-rest ((m.operation + 1) ∷ reply_kind to ∷ []) _ 2 refl h) in
    let r : pick (eqb (reply_kind to) 0) (all_zero s (at + 4) 4) true ≡ true = holds-reply to (holds-first (reply_bytes to) (padded message_room l) tail) in
    let e : at + 4 + 4 ≡ at + 8 = omega arith in
    let bytes : HoldsAt s (at + 8) (padded message_room l) = rw e at (holds-rest (reply_bytes to) (padded message_room l) 4 (reply-size to) tail) in
    let is = message-complete l m.message (record { bytes = refl; good = w }) in
    let p : part s (at + 8) (length l) ≡ l = holds-part (holds-first l (zeros (message_room - length l)) bytes) (length l) refl in
    let z = holds-zero (message_room - length l) (holds-rest l (zeros (message_room - length l)) (length l) refl bytes) in
    let f = le-leb (length l) message_room (message-size m.message w) in
    rw (k, small-kind to, r, len, f, p, is, z)

module _ (s : List ℕ) (o : Octets s) where
  reply-holds : (c at : ℕ) → at + 4 ≤ length s → leb c 2 ≡ true → pick (eqb c 0) (all_zero s at 4) true ≡ true → HoldsAt s at (reply_bytes (read_reply s c at))
  unfolding read_reply read_destination
  reply-holds zero at i k h = zero-holds s at 4 i h
  reply-holds (suc zero) at i k h = u32-holds s o at i
  reply-holds (suc (suc zero)) at i k h = waiting-holds s o at i
  reply-holds (suc (suc (suc c))) at i k h = absurd (omega (arith, leb-true (suc (suc (suc c))) 2 k))

  kind-back : (c at : ℕ) → leb c 2 ≡ true → reply_kind (read_reply s c at) ≡ c
  unfolding read_reply read_destination
  kind-back zero at k = refl
  kind-back (suc zero) at k = refl
  kind-back (suc (suc zero)) at k = refl
  kind-back (suc (suc (suc c))) at k = absurd (omega (arith, leb-true (suc (suc (suc c))) 2 k))

  -- Bytes of a length, then zeros.
  padded-holds : (at n len : ℕ) (l : List ℕ) → at + n ≤ length s → len ≤ n → part s at len ≡ l → all_zero s (at + len) (n - len) ≡ true
      → HoldsAt s at (padded n l)
  padded-holds at n len l i k e h =
      let z : length l ≡ len = ap length (sym e) ∙ length_part s at len (omega arith) in
      let d : n - length l ≡ n - len = omega arith in
      let a : HoldsAt s at l = record { after = drop len (drop at s); bytes = sym (take-append-drop len (drop at s)) ∙ rw e refl } in
      holds-join l (zeros (n - length l)) len z a (rw d (zero-holds s (at + len) (n - len) (omega arith) h))

  message-back : (l : List ℕ) → Octets l → is_message l ≡ true → message_bytes (tree_or (decode_message l)) ≡ l
  message-back l p h = let w = message-sound l p h in rw (decode-complete message_levels_below message_nodes_below l w.0 w.1) (sym w.1.bytes)

  entry-holds : (at : ℕ) → at + entry_size ≤ length s → (byte_at s at ≡ 0 → ⊥) → entry_form s at ≡ true → HoldsAt s at (entry_bytes (read_entry s at))
  unfolding entry_form entry_bytes read_entry
  entry-holds at i u h =
      let c = byte_at s (at + 1) in
      let n = u16_at s (at + 2) in
      let l = part s (at + 8) n in
      let z = all_zero s (at + 8 + n) (message_room - n) in
      let r = pick (eqb c 0) (all_zero s (at + 4) 4) true in
      let h1 = and_left (leb c 2 && r) (leb n message_room && (is_message l && z)) h in
      let h2 = and_right (leb c 2 && r) (leb n message_room && (is_message l && z)) h in
      let h3 = and_right (leb n message_room) (is_message l && z) h2 in
      let kc = and_left (leb c 2) r h1 in
      let small : n ≤ message_room = leb-true n message_room (and_left (leb n message_room) (is_message l && z) h2) in
      let back = message-back l (octets-part s (at + 8) n o) (and_left (is_message l) z h3) in
      let len : length l ≡ n = length_part s (at + 8) n (omega arith) in
      let op : byte_at s at ≡ byte_at s at - 1 + 1 = omega (arith, positive (byte_at s at) u) in
      let e : at + 4 + 4 ≡ at + 8 = omega arith in
      let to = read_reply s c (at + 4) in
      let a = two-holds s o at (omega arith) op (sym (kind-back c (at + 4) kc)) in
      let b : HoldsAt s (at + 2) (u16_bytes (length l)) = rw len (u16-holds s o (at + 2) (omega arith)) in
      let d = reply-holds c (at + 4) (omega arith) kc (and_right (leb c 2) r h1) in
      let f : HoldsAt s (at + 4 + 4) (padded message_room l) =
      rw e (padded-holds (at + 8) message_room n l (omega arith) small refl (and_right (is_message l) z h3)) in
      let front : List ℕ = (byte_at s at - 1 + 1) ∷ reply_kind to ∷ [] in
      rw back (holds-join (front ++ u16_bytes (length l)) (reply_bytes to ++ padded message_room l) 4 refl (holds-join front (u16_bytes (length l)) 2 refl a b)
      (holds-join (reply_bytes to) (padded message_room l) 4 (reply-size to) d f))
    where
      positive : (x : ℕ) → (x ≡ 0 → ⊥) → 0 < x
      positive zero u = absurd (u refl)
      positive (suc x) u = omega arith

-- ---- the queue

holds-queue : {s : List ℕ} {at : ℕ} (n : ℕ) (l : List Queued) → AllMessages l → HoldsAt s at (queue_bytes n l) → queue_form s at n ≡ true
unfolding queue_form queue_bytes AllMessages
holds-queue zero l w h = refl
holds-queue {s} {at} (suc n) [] w h =
    let z : HoldsAt s at (zeros (entry_size * suc n)) = rw (no-queue (suc n)) at h in
    rw (holds-zeros (omega arith) z) (holds-zero (entry_size * suc n) z)
holds-queue {s} {at} (suc n) (m ∷ l) w h =
    let a = holds-first (entry_bytes m) (queue_bytes n l) h in
    let b = holds-rest (entry_bytes m) (queue_bytes n l) entry_size (entry-size m (message-size m.message w.0)) h in
    rw (entry-used m a, holds-entry-form m w.0 a, holds-queue {s = s} {at = at + entry_size} n l w.1 b)

queue-holds : (s : List ℕ) → Octets s → (at n : ℕ) → at + entry_size * n ≤ length s → queue_form s at n ≡ true → HoldsAt s at (queue_bytes n (read_queue s n at))
unfolding queue_form queue_bytes read_queue
queue-holds s o at zero i h = holds-nil s at
queue-holds s o at (suc n) i h = by (eqb (byte_at s at) 0) refl h (queue-holds s o (at + entry_size) n (omega arith))
  where
    by : (t : Bool) → eqb (byte_at s at) 0 ≡ t → pick t (all_zero s at (entry_size * suc n)) (entry_form s at && queue_form s (at + entry_size) n) ≡ true
        → (queue_form s (at + entry_size) n ≡ true → HoldsAt s (at + entry_size) (queue_bytes n (read_queue s n (at + entry_size))))
        → HoldsAt s at (queue_bytes (suc n) (pick t [] (read_entry s at ∷ read_queue s n (at + entry_size))))
    by true e h k = rw (no-queue (suc n)) (zero-holds s at (entry_size * suc n) i h)
    by false e h k =
        let a = and_left (entry_form s at) (queue_form s (at + entry_size) n) h in
        let b = and_right (entry_form s at) (queue_form s (at + entry_size) n) h in
        let c = entry-holds s o at (omega arith) (eqb-false (byte_at s at) 0 e) a in
        let w = entry-made s o at in
        holds-join (entry_bytes (read_entry s at)) (queue_bytes n (read_queue s n (at + entry_size))) entry_size
        (entry-size (read_entry s at) (message-size _ w)) c (k b)

-- ---- a live slot's tree

tree-back : (l : List ℕ) → Octets l → is_session_tree l ≡ true → tree_bytes (children_of (decode session_levels session_nodes l)) ≡ l
tree-back l o h = let w = session-sound l o h in rw (decode-complete session_levels session_nodes l (tree empty w.0) w.1) (sym w.1.bytes)

holds-tree : {s : List ℕ} (at : ℕ) (F : Forest Value) → WellFormedTree session_levels session_nodes (tree empty F) → tree_length s at ≡ length (tree_bytes F)
    → HoldsAt s (at + tree_place) (padded tree_room (tree_bytes F)) → tree_form s at ≡ true
unfolding tree_form
holds-tree {s} at F w e h =
    let l = tree_bytes F in
    let d = session-complete l F (record { bytes = refl; good = w }) in
    let p = holds-part (holds-first l (zeros (tree_room - length l)) h) (length l) refl in
    let z = holds-zero (tree_room - length l) (holds-rest l (zeros (tree_room - length l)) (length l) refl h) in
    let f = le-leb (length l) tree_room (omega (arith, session-tree-size F w)) in
    rw (e, f, p, d, z)

-- ---- a slot

-- What stands in the form of a slot passes the test.
pub holds-slot : {s : List ℕ} {at : ℕ} (x : Slot) → MadeSlot x → HoldsAt s at (slot_bytes x) → slot_form s at ≡ true
unfolding slot_form live_form slot_bytes
holds-slot free w h = rw (holds-zeros (omega arith) h) (holds-zero slot_size h)
holds-slot {s} {at} (live S) w h =
    let p = slot-parts S (made-fits w) h in
    rw (
      head_live S p.head,
      head-tested S p.head,
      holds-tree at S.tree w.bounded (head-length S p.head) p.tree,
      holds-queue 4 S.queue w.messages p.queue,
      holds_rows S.progress 0 256 p.rows,
      holds-zero kept_size p.kept,
    )

module _ (s : List ℕ) (o : Octets s) where
  -- A live slot from its parts.
  parts-slot : (at : ℕ) (S : Session) → at + slot_size ≤ length s → SessionFits S → Parts s at S → HoldsAt s at (slot_bytes (live S))
  unfolding slot_bytes
  parts-slot at S i f p =
      let t = tree_bytes S.tree in
      let q = queue_bytes 4 S.queue in
      let r = rows_bytes S.progress in
      let b : HoldsAt s (at + rows_place) (r ++ zeros kept_size) =
      holds-join r (zeros kept_size) rows_size (rows-size S.progress) p.rows (rw (further at rows_place rows_size) p.kept) in
      let c : HoldsAt s (at + queue_place) (q ++ (r ++ zeros kept_size)) =
      holds-join q (r ++ zeros kept_size) queue_size f.queue_fits p.queue (rw (further at queue_place queue_size) b) in
      let d : HoldsAt s (at + tree_place) (padded tree_room t ++ (q ++ (r ++ zeros kept_size))) =
      holds-join (padded tree_room t) _ tree_room (length-padded tree_room t f.tree_fits) p.tree (rw (further at tree_place tree_room) c) in
      holds-join (head_bytes S) _ head_size (head-size S) p.head d
    where
      further : (at a b : ℕ) → at + a + b ≡ at + (a + b)
      further at a b = omega arith

  live-parts : (at : ℕ) → at + slot_size ≤ length s → live_form s at ≡ true → Parts s at (read_session s at)
  unfolding live_form tree_form read_session
  live-parts at i h =
      let n = tree_length s at in
      let l = part s (at + tree_place) n in
      let f1 = head_form s at in
      let z = all_zero s (at + tree_place + n) (tree_room - n) in
      let f4 = leb n tree_room && (is_session_tree l && z) in
      let f5 = queue_form s (at + queue_place) 4 in
      let f6 = rows_form s (at + rows_place) 256 in
      let f7 = all_zero s (at + kept_place) kept_size in
      let h1 = and_left (f1 && f4) (f5 && (f6 && f7)) h in
      let h2 = and_right (f1 && f4) (f5 && (f6 && f7)) h in
      let h4 = and_right f1 f4 h1 in
      let small : n ≤ tree_room = leb-true n tree_room (and_left (leb n tree_room) (is_session_tree l && z) h4) in
      let h5 = and_right (leb n tree_room) (is_session_tree l && z) h4 in
      let back = tree-back l (octets-part s (at + tree_place) n o) (and_left (is_session_tree l) z h5) in
      let h67 = and_right f5 (f6 && f7) h2 in
      record {
        head = tested-head s o at (read_session s at) (omega arith) (and_left f1 f4 h1) (sym (ap length back ∙ length_part s (at + tree_place) n (omega arith))) refl;
        tree = rw back (padded-holds s o (at + tree_place) tree_room n l (omega arith) small refl (and_right (is_session_tree l) z h5));
        queue = queue-holds s o (at + queue_place) 4 (omega arith) (and_left f5 (f6 && f7) h2);
        rows = rows-hold s o _ (at + rows_place) 0 256 (omega arith) (λ k u. rw (zero-add k, lt-ltb k 256 u) refl) (and_left f6 f7 h67);
        kept = zero-holds s (at + kept_place) kept_size (omega arith) (and_right f6 f7 h67);
      }

  live-holds : (at : ℕ) → at + slot_size ≤ length s → live_form s at ≡ true → HoldsAt s at (slot_bytes (live (read_session s at)))
  live-holds at i h = parts-slot at (read_session s at) i (made-fits (session-made s o at)) (live-parts at i h)

  -- What passes it is the form of what is read there.
  pub slot-holds : (at : ℕ) → at + slot_size ≤ length s → slot_form s at ≡ true → HoldsAt s at (slot_bytes (read_slot s at))
  unfolding slot_form read_slot slot_bytes
  slot-holds at i h = by (eqb (byte_at s at) 0) h
    where
      by : (t : Bool) → pick t (all_zero s at slot_size) (live_form s at) ≡ true → HoldsAt s at (slot_bytes (pick t free (live (read_session s at))))
      by true h = zero-holds s at slot_size i h
      by false h = live-holds at i h

-- ---- the whole

joined-holds : (s : List ℕ) (f : ℕ → List ℕ) (w : ℕ) → ((i : ℕ) → length (f i) ≡ w) → (at k n : ℕ) → ((i : ℕ) → i < n → HoldsAt s (at + w * i) (f (k + i)))
    → HoldsAt s at (joined f k n)
unfolding joined
joined-holds s f w z at k zero h = holds-nil s at
joined-holds s f w z at k (suc n) h =
    let a : HoldsAt s at (f k) = rw (mul-zero w, add-zero at, add-zero k) at (h 0 (omega arith)) in
    holds-join (f k) (joined f (suc k) n) w (z k) a (joined-holds s f w z (at + w) (suc k) n (λ i l. later i (h (suc i) (omega arith))))
  where
    later : (i : ℕ) → HoldsAt s (at + w * suc i) (f (k + suc i)) → HoldsAt s (at + w + w * i) (f (suc k + i))
    later i g =
        let u : suc k + i ≡ k + suc i = omega arith in
        let v : at + w + w * i ≡ at + w * suc i = omega (arith, mul-suc w i) in
        rw (u, v) g

holds-all : {s l : List ℕ} → HoldsAt s 0 l → length l ≡ length s → l ≡ s
holds-all {s} {l} h e =
    let n : length h.after ≡ 0 = omega (arith, ap length h.bytes, length-append l h.after) in
    sym (append-nil l) ∙ ap (λ (x : List ℕ). l ++ x) (sym (nothing h.after n)) ∙ sym h.bytes
  where
    nothing : (x : List ℕ) → length x ≡ 0 → x ≡ []
    nothing [] n = refl
    nothing (a ∷ x) n = absurd (omega arith)

-- The slot k of what is read.
read_at : (s : List ℕ) (k : ℕ) → k < 16 → slot_at (read_state s) k ≡ read_slot s (slot_size * k)
unfolding read_state
read_at s k i =
    let e : 4 * (k / 4) + k % 4 ≡ k = omega arith in
    rw (lt-ltb (k / 4) 4 (omega arith), lt-ltb (k % 4) 4 (omega arith), e)

read-sized : (s : List ℕ) → Octets s → Sized (read_state s)
unfolding read_state
read-sized s o = record { each = λ k. by (k / 4) (k % 4) (ltb (k / 4) 4 && ltb (k % 4) 4) }
  where
    by : (q n : ℕ) (t : Bool) → length (slot_bytes (pick t (read_slot s (slot_start q n)) free)) ≡ slot_size
    by q n true = slot-size (read_slot s (slot_start q n)) (slot-made s o (slot_start q n))
    by q n false = slot-size free tt

each-form : (s : List ℕ) (n : ℕ) → slots_form s n ≡ true → (k : ℕ) → k < n → slot_form s (slot_size * k) ≡ true
unfolding slots_form
each-form s zero h k i = absurd (omega arith)
each-form s (suc n) h k i =
    let a = slot_form s (slot_size * n) in
    below_next (λ k. slot_form s (slot_size * k) ≡ true) n k i (and_left a (slots_form s n) h) (each-form s n (and_right a (slots_form s n) h) k)

all-form : (s : List ℕ) (n : ℕ) → ((k : ℕ) → k < n → slot_form s (slot_size * k) ≡ true) → slots_form s n ≡ true
unfolding slots_form
all-form s zero h = refl
all-form s (suc n) h = rw (h n (omega arith), all-form s n (λ k i. h k (omega arith)))

module _ (s : List ℕ) (o : Octets s) where
  -- 65,536 bytes in the form of slots are the byte form of the state that is read from them.
  pub form-bytes : length s ≡ 65536 → slots_form s 16 ≡ true → state_bytes (read_state s) ≡ s
  unfolding state_bytes
  form-bytes n h =
      let z = read-sized s o in
      holds-all (joined-holds s (λ k. slot_bytes (slot_at (read_state s) k)) slot_size z.each 0 0 16 (λ k i. slot k i)) (sized-length z ∙ sym n)
    where
      slot : (k : ℕ) → k < 16 → HoldsAt s (0 + slot_size * k) (slot_bytes (slot_at (read_state s) (0 + k)))
      slot k i = rw (zero-add (slot_size * k), zero-add k, read_at s k i) (slot-holds s o (slot_size * k) (omega arith) (each-form s 16 h k i))

  -- And the other way round.
  pub bytes-form : state_bytes (read_state s) ≡ s → slots_form s 16 ≡ true
  bytes-form e = all-form s 16 (λ k i. slot k i)
    where
      slot : (k : ℕ) → k < 16 → slot_form s (slot_size * k) ≡ true
      slot k i =
          let h = state-slot (read-sized s o) (k / 4) (k % 4) (omega arith) (omega arith) in
          let d : 4 * (k / 4) + k % 4 ≡ k = omega arith in
          let a : HoldsAt s (slot_size * k) (slot_bytes (slot_at (read_state s) k)) = rw (d, e) at h in
          holds-slot (read_slot s (slot_size * k)) (slot-made s o (slot_size * k)) (rw (read_at s k i) at a)

  pub same-form : same_bytes (state_bytes (read_state s)) s ≡ (eqb (length s) 65536 && slots_form s 16)
  same-form = agree _ _ to from
    where
      to : same_bytes (state_bytes (read_state s)) s ≡ true → (eqb (length s) 65536 && slots_form s 16) ≡ true
      to h =
          let e = same-equal (state_bytes (read_state s)) s h in
          rw (eq-eqb (length s) 65536 (ap length (sym e) ∙ sized-length (read-sized s o)), bytes-form e)

      from : (eqb (length s) 65536 && slots_form s 16) ≡ true → same_bytes (state_bytes (read_state s)) s ≡ true
      from h =
          let a = eqb-true (length s) 65536 (and_left (eqb (length s) 65536) (slots_form s 16) h) in
          rw (form-bytes a (and_right (eqb (length s) 65536) (slots_form s 16) h)) (same_true s)

  -- So 14 is decided by tests of bytes and of what is read.
  pub decode-form : (N : Network) (rows : ℕ)
      → decode_state N rows s
      ≡ pick ((suits_services N rows (read_state s) 4 && suits_all_keys N (read_state s) 4) && (eqb (length s) 65536 && slots_form s 16))
      (some (read_state s)) none
  unfolding decode_state
  decode-form N rows = rw same-form

-- ---- slot by slot

module _ (N : Network) (rows : ℕ) (s : List ℕ) where
  -- The test of one slot.
  abbrev stands : ℕ → Bool
  stands k = slot_form s (slot_size * k) && suits_slot N rows (k / 4) (k % 4) (read_slot s (slot_size * k))

  each_stands : (n : ℕ) → slots_stand N rows s n ≡ true → (k : ℕ) → k < n → stands k ≡ true
  unfolding slots_stand
  each_stands zero h k i = absurd (omega arith)
  each_stands (suc n) h k i =
      below_next (λ k. stands k ≡ true) n k i (and_left (stands n) (slots_stand N rows s n) h) (each_stands n (and_right (stands n) (slots_stand N rows s n) h) k)

  all-stand : (n : ℕ) → ((k : ℕ) → k < n → stands k ≡ true) → slots_stand N rows s n ≡ true
  unfolding slots_stand
  all-stand zero h = refl
  all-stand (suc n) h = rw (h n (omega arith), all-stand n (λ k i. h k (omega arith)))

  slots-both : (suits_services N rows (read_state s) 4 && slots_form s 16) ≡ slots_stand N rows s 16
  slots-both = agree _ _ to from
    where
      to : (suits_services N rows (read_state s) 4 && slots_form s 16) ≡ true → slots_stand N rows s 16 ≡ true
      to h =
          let a = suits_services N rows (read_state s) 4 in
          let f = each-form s 16 (and_right a (slots_form s 16) h) in
          let g = services-suit N rows (read_state s) 4 (and_left a (slots_form s 16) h) in
          all-stand 16 (λ k i. rw (f k i) (rw (read_at s k i) at (g (k / 4) (k % 4) (omega arith) (omega arith))))

      slot : slots_stand N rows s 16 ≡ true → (q n : ℕ) → q < 4 → n < 4 → suits_slot N rows q n (read_state s q n) ≡ true
      slot h q n i j =
          let k = 4 * q + n in
          let e : k / 4 ≡ q = omega arith in
          let f : k % 4 ≡ n = omega arith in
          let b = and_right (slot_form s (slot_size * k)) (suits_slot N rows (k / 4) (k % 4) (read_slot s (slot_size * k))) (each_stands 16 h k (omega arith)) in
          let c : suits_slot N rows (k / 4) (k % 4) (slot_at (read_state s) k) ≡ true = rw (read_at s k (omega arith)) b in
          rw (e, f) at c

      from : slots_stand N rows s 16 ≡ true → (suits_services N rows (read_state s) 4 && slots_form s 16) ≡ true
      from h =
          rw (
            suit-services N rows (read_state s) 4 (slot h),
            all-form s 16 (λ k i. and_left (slot_form s (slot_size * k)) (suits_slot N rows (k / 4) (k % 4) (read_slot s (slot_size * k))) (each_stands 16 h k i)),
          )

  -- 14, slot by slot, then the keys: the bytes stand for the state that is read from them, or for none.
  pub decode-slots : Octets s
      → decode_state N rows s
      ≡ pick ((eqb (length s) 65536 && slots_stand N rows s 16) && suits_all_keys N (read_state s) 4) (some (read_state s)) none
  decode-slots o =
      let a = suits_services N rows (read_state s) 4 in
      let k = suits_all_keys N (read_state s) 4 in
      let b = eqb (length s) 65536 in
      decode-form s o N rows
      ∙ ap (λ (t : Bool). pick t (some (read_state s)) none)
      (swap a k b (slots_form s 16) ∙ ap (λ (t : Bool). (b && t) && k) slots-both)
    where
      swap : (a k b c : Bool) → ((a && k) && (b && c)) ≡ ((b && (a && c)) && k)
      swap true true b c = sym (and-true (b && c))
      swap true false b c = sym (and-false (b && c))
      swap false k true c = refl
      swap false k false c = refl
