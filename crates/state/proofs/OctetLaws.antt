-- The byte form is made of bytes: in a file within 01's limits every element is below 256 (`state-octets`).
use Rattle.std.proofs.Math.Path.{◌≡◌, refl}
use mathlib.Core.List.{List, [], ◌∷◌, ◌++◌}
use Rattle.std.specs.Prelude.{Bool, false, ◌&&◌, ◌||◌, ◌⊎◌, get_or, eqb, leb, ltb}
use Rattle.std.proofs.Math.Bool.{true}
use Rattle.std.proofs.Common.{inl, inr, get_or-append-add, eqb-true, ltb-true, leb-true}
use Prim.Native.Nat.{ℕ, zero, suc, ◌+◌, ◌-◌, ◌/◌, ◌%◌, ◌≤◌, ◌<◌}
use native.Mathlib.Omega.{arith}
use Rattle.std.proofs.Math.Decide.{dec_lt}
use Rattle.std.proofs.Math.ListN.{length, get_or-append}
use Rattle.basics.specs.TestLaws.{and_left, and_right}
use Rattle.tree_forest.specs.Forest.{Forest, Tree, tree, nodes}
use Rattle.scalar.specs.Value.{Value, value}
use Rattle.scalar.specs.ValueLaws.{value-basic, value-size}
use Rattle.network_syntax.specs.Syntax.{Optional, none, some, Network, Operation, Behaviour, nil, one_way}
use Rattle.network_syntax.specs.Syntax.{request_response, notification, solicit_response, if_then_else, while_do}
use Rattle.network_syntax.specs.Syntax.{sequence, parallel, assign, choice, waiting, answering, Branches}
use Rattle.network_syntax.specs.Rows.{row_of, has_row, at_row, entry, is_input_operation}
use Rattle.tree.specs.Encode.{root_count, encode, rooted, empty, Octets, Proper, WellFormedTree}
use Rattle.tree_forest.specs.Limits.{message_levels_below, message_nodes_below, session_levels, session_nodes}
use Rattle.tree.specs.EncodeLaws.{count-nodes, encode-octets, octets-nil}
use Rattle.state.specs.Places.{slot_size, tree_room, message_room, entry_size, kept_size}
use Rattle.state.specs.Session.{Destination, outsider, waiting_row, Progress, undone, done, waits}
use Rattle.state.specs.Session.{received, taken, Progresses, Queued, Session, Slot, free, live, State}
use Rattle.state.specs.Bytes.{zeros, joined, padded, destination_bytes, reply_kind, reply_bytes, message_bytes, entry_bytes}
use Rattle.state.specs.Bytes.{queue_bytes, progress_bytes, rows_bytes, tree_bytes, head_bytes, slot_bytes, slot_at, state_bytes}
use Rattle.wire.specs.Wire.{u16_bytes, u32_bytes}
use Rattle.state.specs.Shape.{is_destination, suits_reply, is_undone, undone_or_done, undone_done_or_waits, undone_done_or_received}
use Rattle.state.specs.Shape.{undone_or_taken, undone_done_or_body, branches, suits, quiet_elsewhere, suits_operation, suits_queue}
use Rattle.state.specs.Shape.{operation_of_row, behaviour_in, suits_behaviour, suits_slot, AllMessages, WellMade, MadeSlot, HasShape}
use Rattle.state.proofs.PartLaws.{byte-zeros}
use Rattle.state.proofs.SizeLaws.{message-size, session-tree-size}
use Rattle.state.specs.RowShape.{suits_row, PartOf, InBranch}
use Rattle.state.proofs.RowLaws.{suits-row, at-row, row-found, quiet_each}

-- ---- lists of bytes

octets-cons : {a : ℕ} {l : List ℕ} → a < 256 → Octets l → Octets (a ∷ l)
octets-cons {a} {l} h o = record { small = by }
  where
    by : (k : ℕ) → get_or (a ∷ l) k 0 < 256
    by zero = h
    by (suc k) = o.small k

octets-append : (a b : List ℕ) → Octets a → Octets b → Octets (a ++ b)
octets-append a b p q = record { small = λ k. by k (dec_lt k (length a)) }
  where
    by : (k : ℕ) → Dec (k < length a) → get_or (a ++ b) k 0 < 256
    by k (yes l) = rw (get_or-append a b 0 k l) (p.small k)
    by k (no l) =
        let e : k ≡ length a + (k - length a) = omega arith in
        rw e (rw (get_or-append-add a b (k - length a) 0) (q.small (k - length a)))

octets-zeros : (n : ℕ) → Octets (zeros n)
octets-zeros n = record { small = λ k. omega (arith, byte-zeros n k) }

octets-joined : (f : ℕ → List ℕ) (k n : ℕ) → ((i : ℕ) → i < k + n → Octets (f i)) → Octets (joined f k n)
unfolding joined
octets-joined f k zero h = octets-nil
octets-joined f k (suc n) h =
    octets-append (f k) (joined f (suc k) n) (h k (omega arith)) (octets-joined f (suc k) n (λ i l. h i (omega arith)))

octets-u16 : (v : ℕ) → v < 65536 → Octets (u16_bytes v)
octets-u16 v h = octets-cons (omega arith) (octets-cons (omega arith) octets-nil)

octets-u32 : (v : ℕ) → v < 0x100000000 → Octets (u32_bytes v)
octets-u32 v h = octets-cons (omega arith) (octets-cons (omega arith) (octets-cons (omega arith) (octets-cons (omega arith) octets-nil)))

-- ---- trees

node-octets : (i b : ℕ) (v : List ℕ) (ks : Forest Value) (t : List ℕ) → i < 65536 → Proper (value b v) → nodes ks < 256 → Octets t
    → Octets (i % 256 ∷ i / 256 ∷ b ∷ root_count ks ∷ length v ∷ (v ++ t))
node-octets i b v ks t h p n o =
    octets-cons (omega arith) (octets-cons (omega arith) (octets-cons (omega (arith, value-basic b v p.valid))
    (octets-cons (omega (arith, count-nodes ks)) (octets-cons (omega (arith, value-size b v p.valid)) (octets-append v t p.bytes o)))))

tree-octets : (deep many : ℕ) (t : Tree Value) → many < 256 → WellFormedTree deep many t → Octets (encode (rooted t))
unfolding encode
tree-octets deep many (tree (value b v) ks) n w =
    let k : nodes ks < 256 = omega (arith, w.few) in
    node-octets 0 b v ks (encode ks ++ []) (omega arith) w.root k (octets-append (encode ks) [] (encode-octets ks w.sound k) octets-nil)

-- 01: "At most 256 rows in P, T, E, B; 64 in O; 1 to 4 in S"; "choice (first row a, count b of 1 to 8)".
pub record WithinLimits (N : Network) (rows : ℕ) : Type 0 where
  pub services : length N.services ≤ 4
  pub operations : length N.operations ≤ 64
  pub behaviours : rows ≤ 256
  pub choices : (q n : ℕ) (B : Behaviour) → behaviour_in N q n ≡ some B → (r : ℕ) (m : Branches) → PartOf (choice r m) B → branches m ≤ 8

module _ {N : Network} {rows : ℕ} (w : WithinLimits N rows) where
  -- ---- where replies go

  destination-octets : (d : Destination) → is_destination N rows d ≡ true → Octets (destination_bytes d)
  destination-octets (outsider k) h = octets-u32 k (ltb-true k 0x100000000 h)
  destination-octets (waiting_row q n r) h =
      let a = ltb-true q (length N.services) (and_left (ltb q (length N.services)) (leb n 3 && ltb r rows) h) in
      let h' = and_right (ltb q (length N.services)) (leb n 3 && ltb r rows) h in
      let b = leb-true n 3 (and_left (leb n 3) (ltb r rows) h') in
      let c = ltb-true r rows (and_right (leb n 3) (ltb r rows) h') in
      octets-cons (omega (arith, w.services)) (octets-cons (omega arith) (octets-u16 r (omega (arith, w.behaviours))))

  kind-octet : (to : Optional Destination) → reply_kind to < 256
  kind-octet none = omega arith
  kind-octet (some (outsider k)) = omega arith
  kind-octet (some (waiting_row q n r)) = omega arith

  -- ---- the queue

  operation-row : (l : List Operation) (k : ℕ) (o : Operation) → operation_of_row l k ≡ some o → k < length l
  unfolding entry
  operation-row [] k o e = absurd (let z : ◌≡◌ {A = ℕ} 0 1 = cc in omega arith)
  operation-row (a ∷ l) zero o e = omega arith
  operation-row (a ∷ l) (suc k) o e = omega (arith, operation-row l k o e)

  reply-octets : (two_way : Bool) (to : Optional Destination) → suits_reply N rows two_way to ≡ true → Octets (reply_bytes to)
  reply-octets two_way none h = octets-zeros 4
  reply-octets two_way (some d) h = destination-octets d (and_right two_way (is_destination N rows d) h)

  entry-octets : (q : ℕ) (m : Queued) → WellFormedTree message_levels_below message_nodes_below m.message
      → suits_operation N rows q m.reply_to (operation_of_row N.operations m.operation) ≡ true → Octets (entry_bytes m)
  unfolding entry_bytes
  entry-octets q m f h = by (operation_of_row N.operations m.operation) refl h
    where
      by : (x : Optional Operation) → operation_of_row N.operations m.operation ≡ x → suits_operation N rows q m.reply_to x ≡ true → Octets (entry_bytes m)
      by none e h = absurd (let z : ◌≡◌ {A = ℕ} 0 1 = cc in omega arith)
      by (some o) e h =
          let l = message_bytes m.message in
          let t = suits_reply N rows o.two_way m.reply_to in
          let r = and_right (is_input_operation o.direction) t (and_right (eqb o.service q) (is_input_operation o.direction && t) h) in
          let k = operation-row N.operations m.operation o e in
          octets-cons (omega (arith, w.operations)) (octets-cons (kind-octet m.reply_to)
          (octets-append (u16_bytes (length l)) _ (octets-u16 (length l) (omega (arith, message-size m.message f)))
          (octets-append (reply_bytes m.reply_to) (padded message_room l) (reply-octets o.two_way m.reply_to r)
          (octets-append l (zeros (message_room - length l))
          (tree-octets message_levels_below message_nodes_below m.message (omega arith) f) (octets-zeros (message_room - length l))))))

  queue-octets : (q n : ℕ) (l : List Queued) → AllMessages l → suits_queue N rows q l ≡ true → Octets (queue_bytes n l)
  unfolding queue_bytes AllMessages suits_queue
  queue-octets q zero l f h = octets-nil
  queue-octets q (suc n) [] f h = octets-append (zeros entry_size) (queue_bytes n []) (octets-zeros entry_size) (queue-octets q n [] f h)
  queue-octets q (suc n) (m ∷ l) f h =
      let a = suits_operation N rows q m.reply_to (operation_of_row N.operations m.operation) in
      octets-append (entry_bytes m) (queue_bytes n l) (entry-octets q m f.0 (and_left a (suits_queue N rows q l) h))
      (queue-octets q n l f.1 (and_right a (suits_queue N rows q l) h))

  -- ---- progress

  -- A part that a row can have, and a destination.
  abbrev Small : Progress → Type 0
  Small undone = Unit {0}
  Small done = Unit {0}
  Small waits = Unit {0}
  Small (received to) = is_destination N rows to ≡ true
  Small (taken k) = k < 256

  undone-small : (x : Progress) → is_undone x ≡ true → Small x
  undone-small undone h = tt
  undone-small done h = tt
  undone-small waits h = tt
  undone-small (received to) h = absurd (let z : ◌≡◌ {A = ℕ} 0 1 = cc in omega arith)
  undone-small (taken k) h = absurd (let z : ◌≡◌ {A = ℕ} 0 1 = cc in omega arith)

  done-small : (x : Progress) → undone_or_done x ≡ true → Small x
  done-small undone h = tt
  done-small done h = tt
  done-small waits h = tt
  done-small (received to) h = absurd (let z : ◌≡◌ {A = ℕ} 0 1 = cc in omega arith)
  done-small (taken k) h = absurd (let z : ◌≡◌ {A = ℕ} 0 1 = cc in omega arith)

  waits-small : (x : Progress) → undone_done_or_waits x ≡ true → Small x
  waits-small undone h = tt
  waits-small done h = tt
  waits-small waits h = tt
  waits-small (received to) h = absurd (let z : ◌≡◌ {A = ℕ} 0 1 = cc in omega arith)
  waits-small (taken k) h = absurd (let z : ◌≡◌ {A = ℕ} 0 1 = cc in omega arith)

  received-small : (x : Progress) → undone_done_or_received N rows x ≡ true → Small x
  received-small undone h = tt
  received-small done h = tt
  received-small waits h = tt
  received-small (received to) h = h
  received-small (taken k) h = absurd (let z : ◌≡◌ {A = ℕ} 0 1 = cc in omega arith)

  taken-small : (n : ℕ) (x : Progress) → n ≤ 256 → undone_or_taken n x ≡ true → Small x
  taken-small n undone l h = tt
  taken-small n done l h = tt
  taken-small n waits l h = tt
  taken-small n (received to) l h = absurd (let z : ◌≡◌ {A = ℕ} 0 1 = cc in omega arith)
  taken-small n (taken k) l h = omega (arith, ltb-true k n h)

  body-small : (x : Progress) → undone_done_or_body x ≡ true → Small x
  body-small undone h = tt
  body-small done h = tt
  body-small waits h = tt
  body-small (received to) h = absurd (let z : ◌≡◌ {A = ℕ} 0 1 = cc in omega arith)
  body-small (taken k) h = omega (arith, eqb-true k 0 h)

  row_small : (x : Progress) (b : Behaviour) → ((r : ℕ) (m : Branches) → b ≡ choice r m → branches m ≤ 8) → suits_row N rows x b ≡ true → Small x
  unfolding suits_row
  row_small x (nil r) k h = undone-small x h
  row_small x (one_way r o y) k h = done-small x h
  row_small x (request_response r o y c d) k h = received-small x h
  row_small x (notification r o e) k h = done-small x h
  row_small x (solicit_response r o e y) k h = waits-small x h
  row_small x (if_then_else r e a z) k h = taken-small 2 x (omega arith) h
  row_small x (while_do r e z) k h = body-small x h
  row_small x (sequence r a z) k h = undone-small x h
  row_small x (parallel r a z) k h = undone-small x h
  row_small x (assign r y e) k h = done-small x h
  row_small x (choice r m) k h = taken-small (branches m) x (omega (arith, k r m refl)) h
  row_small x (waiting r o y) k h = undone-small x h
  row_small x (answering r o c d) k h = undone-small x h

  progress-octets : (x : Progress) → Small x → Octets (progress_bytes x)
  unfolding progress_bytes
  progress-octets undone h = octets-zeros 6
  progress-octets done h = octets-cons (omega arith) (octets-zeros 5)
  progress-octets waits h = octets-cons (omega arith) (octets-zeros 5)
  progress-octets (taken k) h = octets-cons (omega arith) (octets-cons h (octets-zeros 4))
  progress-octets (received (outsider k)) h = octets-cons (omega arith) (octets-cons (omega arith) (destination-octets (outsider k) h))
  progress-octets (received (waiting_row q n r)) h = octets-cons (omega arith) (octets-cons (omega arith) (destination-octets (waiting_row q n r) h))

  rows-octets : (p : Progresses) (B : Behaviour) → ((r : ℕ) (m : Branches) → PartOf (choice r m) B → branches m ≤ 8)
      → suits N rows p B ≡ true → quiet_elsewhere 256 p B ≡ true → Octets (rows_bytes p)
  rows-octets p B c h q =
      octets-joined (λ r. progress_bytes (p r)) 0 256 (λ r l. progress-octets (p r) (by r (has_row r B) refl (quiet_each p B 256 q r (omega arith))))
    where
      by : (r : ℕ) (t : Bool) → has_row r B ≡ t → (t || is_undone (p r)) ≡ true → Small (p r)
      by r true e u = found (row-found r B e)
        where
          found : ((b : Behaviour) × (at_row r B ≡ some b)) ⊎ InBranch r B → Small (p r)
          found (inl w) =
              let f = at-row B r w.0 w.1 in
              rw f.1 at (row_small (p (row_of w.0)) w.0 (λ i m g. c i m (rw g at f.0)) (suits-row N rows p B w.0 h f.0).own)
          found (inr w) = undone-small (p r) ((suits-row N rows p B w.0 h w.1).branch_rows r w.2)
      by r false e u = undone-small (p r) u

  -- ---- slots and states

  head-octets : (S : Session) → length (tree_bytes S.tree) < 65536 → S.key < 0x100000000 → Octets (head_bytes S)
  unfolding head_bytes
  head-octets S l k =
      octets-append (1 ∷ 0 ∷ u16_bytes (length (tree_bytes S.tree))) (u32_bytes S.key ++ zeros 8)
      (octets-cons (omega arith) (octets-cons (omega arith) (octets-u16 (length (tree_bytes S.tree)) l)))
      (octets-append (u32_bytes S.key) (zeros 8) (octets-u32 S.key k) (octets-zeros 8))

  live-octets : (q n : ℕ) (S : Session) (B : Behaviour) → behaviour_in N q n ≡ some B → WellMade S → suits_behaviour N rows q S (some B) ≡ true
      → Octets (slot_bytes (live S))
  unfolding slot_bytes
  live-octets q n S B e f h =
      let t = tree_bytes S.tree in
      let s = suits_queue N rows q S.queue in
      let u = suits N rows S.progress B in
      let v = quiet_elsewhere 256 S.progress B in
      let h' = and_right s (u && v) h in
      octets-append (head_bytes S) _ (head-octets S (omega (arith, session-tree-size S.tree f.bounded)) f.key_fits)
      (octets-append (padded tree_room t) _
      (octets-append t (zeros (tree_room - length t)) (tree-octets session_levels session_nodes (tree empty S.tree) (omega arith) f.bounded)
      (octets-zeros (tree_room - length t)))
      (octets-append (queue_bytes 4 S.queue) _ (queue-octets q 4 S.queue f.messages (and_left s (u && v) h))
      (octets-append (rows_bytes S.progress) (zeros kept_size)
      (rows-octets S.progress B (w.choices q n B e) (and_left u v h') (and_right u v h')) (octets-zeros kept_size))))

  slot-octets : (q n : ℕ) (x : Slot) → MadeSlot x → suits_slot N rows q n x ≡ true → Octets (slot_bytes x)
  unfolding slot_bytes
  slot-octets q n free f h = octets-zeros slot_size
  slot-octets q n (live S) f h = by (behaviour_in N q n) refl h
    where
      by : (x : Optional Behaviour) → behaviour_in N q n ≡ x → suits_behaviour N rows q S x ≡ true → Octets (slot_bytes (live S))
      by none e h = absurd (let z : ◌≡◌ {A = ℕ} 0 1 = cc in omega arith)
      by (some B) e h = live-octets q n S B e f h

  pub state-octets : {G : State} → HasShape N rows G → Octets (state_bytes G)
  unfolding state_bytes
  state-octets {G} h = octets-joined (λ k. slot_bytes (slot_at G k)) 0 16 (λ k l. slot k (omega arith))
    where
      slot : (k : ℕ) → k < 16 → Octets (slot_bytes (slot_at G k))
      slot k l = slot-octets (k / 4) (k % 4) (slot_at G k) (h.made (k / 4) (k % 4) (omega arith) (omega arith))
          (h.suited (k / 4) (k % 4) (omega arith) (omega arith))
