-- Which bytes stand for a state: `decode-state-complete` and `decode-state-sound`; hence "each, ill typed too, has one byte form"
-- (`state-bytes-injective`, `stands-unique`), and 14, "The state bytes stand for no state of this file's shape", is `decode_state` giving
-- none (`refused-14`, `none-stands`). Fresh states have the shape.
use Rattle.std.specs.Prelude.{◌≡◌, Bool, ◌&&◌, ◌||◌, ◌⊎◌, eqb, ltb}
use Rattle.std.proofs.Math.Path.{refl}
use Rattle.std.proofs.Common.{sym, ap, subst, ◌∙◌, inl, inr, eq-eqb, ne_eqb, eqb-true, lt-ltb, le-ltb}
use mathlib.Core.List.{List, [], ◌∷◌}
use Rattle.std.proofs.Math.Bool.{true, false}
use Prim.Native.Nat.{ℕ, zero, suc, ◌+◌, ◌≤◌, ◌<◌}
use native.Mathlib.Omega.{arith}
use Rattle.std.proofs.Math.Decide.{dec_lt, ℕ_discrete}
use Rattle.std.proofs.Math.ListN.{length}
use Rattle.tree_forest.specs.Forest.{end, tree, Lookup, absent, present, children_of, Rising, measure}
use Rattle.scalar.specs.Value.{Value}
use Rattle.basics.specs.Choice.{pick}
use Rattle.basics.specs.TestLaws.{and_left, and_right}
use Rattle.network_syntax.specs.Rows.{entry}
use Rattle.network_syntax.specs.Syntax.{Optional, none, some, Network, Service, Behaviour, nil, one_way, request_response}
use Rattle.network_syntax.specs.Syntax.{notification, solicit_response, if_then_else, while_do, sequence, parallel}
use Rattle.network_syntax.specs.Syntax.{assign, choice, waiting, answering, Branches, last_branch, branch}
use Rattle.wire.specs.Wire.{byte_at, u16_at, part}
use Rattle.tree.specs.Encode.{empty, Octets, SoundValues, WellFormedTree}
use Rattle.tree_forest.specs.Limits.{message_levels_below, message_nodes_below, session_levels, session_nodes}
use Rattle.tree.specs.Decode.{decode, decode_message}
use Rattle.tree.specs.EncodeLaws.{octets-part, empty-proper}
use Rattle.tree.specs.DecodeLaws.{decode-sound}
use Rattle.wire.specs.WireLaws.{u32-below}
use Rattle.state.specs.Places.{entry_size, key_place, tree_place, queue_place, slot_start}
use Rattle.state.specs.Session.{undone, Session, Slot, free, live, State, new_session}
use Rattle.state.specs.Bytes.{state_bytes, tree_or, read_entry, read_queue, tree_length, read_session, read_slot, read_state}
use Rattle.state.specs.Shape.{suits_slot, suits_slots, suits_services, AllMessages, WellMade, MadeSlot}
use Rattle.state.specs.Shape.{HasShape, Stands, same_bytes, decode_state, service_of_row, client_of, suits_behaviour}
use Rattle.state.specs.Shape.{suits_queue, suits, suits_branches, quiet_elsewhere, suits_all_keys, fresh_slot, fresh_state}
use Rattle.state.proofs.SizeLaws.{state-length}
use Rattle.state.proofs.ReadLaws.{read-state}
use Rattle.state.proofs.KeyLaws.{key_in, not_live, held_first, suit-keys, keys_none, keys-apart}

-- ---- what is read is well made

pub end-well-formed : (deep many : ℕ) → WellFormedTree deep many (tree empty end)
unfolding SoundValues Rising measure
end-well-formed deep many = record { root = empty-proper; sound = tt; rising = tt; shallow = omega arith; few = omega arith }

message-made : (s : List ℕ) → Octets s → (x : Lookup Value) → decode_message s ≡ x → WellFormedTree message_levels_below message_nodes_below (tree_or x)
message-made s o absent e = end-well-formed message_levels_below message_nodes_below
message-made s o (present t) e = (decode-sound message_levels_below message_nodes_below s t o e).good

tree-made : (s : List ℕ) → Octets s → (x : Lookup Value) → decode session_levels session_nodes s ≡ x
    → WellFormedTree session_levels session_nodes (tree empty (children_of x))
tree-made s o absent e = end-well-formed session_levels session_nodes
tree-made s o (present (tree a ks)) e =
    let w = (decode-sound session_levels session_nodes s (tree a ks) o e).good in
    record { root = empty-proper; sound = w.sound; rising = w.rising; shallow = w.shallow; few = w.few }

-- Whatever the bytes.
module _ (s : List ℕ) (o : Octets s) where
  queue-length : (n at : ℕ) → length (read_queue s n at) ≤ n
  unfolding read_queue
  queue-length zero at = omega arith
  queue-length (suc n) at = by (eqb (byte_at s at) 0) (queue-length n (at + entry_size))
    where
      by : (b : Bool) → length (read_queue s n (at + entry_size)) ≤ n → length (pick b [] (read_entry s at ∷ read_queue s n (at + entry_size))) ≤ suc n
      by true h = omega arith
      by false h = omega arith

  pub entry-made : (at : ℕ) → WellFormedTree message_levels_below message_nodes_below (read_entry s at).message
  unfolding read_entry
  entry-made at =
      let l = part s (at + 8) (u16_at s (at + 2)) in
      message-made l (octets-part s (at + 8) (u16_at s (at + 2)) o) (decode_message l) refl

  queue-made : (n at : ℕ) → AllMessages (read_queue s n at)
  unfolding read_queue AllMessages
  queue-made zero at = tt
  queue-made (suc n) at = by (eqb (byte_at s at) 0) (queue-made n (at + entry_size))
    where
      by : (b : Bool) → AllMessages (read_queue s n (at + entry_size)) → AllMessages (pick b [] (read_entry s at ∷ read_queue s n (at + entry_size)))
      by true h = tt
      by false h = (entry-made at, h)

  pub session-made : (at : ℕ) → WellMade (read_session s at)
  unfolding read_session
  session-made at =
      let l = part s (at + tree_place) (tree_length s at) in
      record {
        bounded = tree-made l (octets-part s (at + tree_place) (tree_length s at) o) (decode session_levels session_nodes l) refl;
        up_to_four = queue-length 4 (at + queue_place);
        messages = queue-made 4 (at + queue_place);
        no_rows_past = λ r h. rw (le-ltb r 256 h);
        key_fits = u32-below s (at + key_place) o.small;
      }

  pub slot-made : (at : ℕ) → MadeSlot (read_slot s at)
  unfolding read_slot
  slot-made at = by (eqb (byte_at s at) 0)
    where
      by : (b : Bool) → MadeSlot (pick b free (live (read_session s at)))
      by true = tt
      by false = session-made at

-- ---- the test and the shape

pub below_next : (P : ℕ → Type 0) (k n : ℕ) → n < suc k → P k → (n < k → P n) → P n
below_next P k n l a b = by (ℕ_discrete n k)
  where
    by : Dec (n ≡ k) → P n
    by (yes e) = rw e a
    by (no e) = b (omega arith)

module _ (N : Network) (rows : ℕ) (G : State) where
  slots-suit : (q k : ℕ) → suits_slots N rows G q k ≡ true → (n : ℕ) → n < k → suits_slot N rows q n (G q n) ≡ true
  unfolding suits_slots
  slots-suit q zero e n l = absurd (omega arith)
  slots-suit q (suc k) e n l =
      let a = suits_slot N rows q k (G q k) in
      below_next (λ n. suits_slot N rows q n (G q n) ≡ true) k n l (and_left a (suits_slots N rows G q k) e)
      (slots-suit q k (and_right a (suits_slots N rows G q k) e) n)

  pub services-suit : (k : ℕ) → suits_services N rows G k ≡ true → (q n : ℕ) → q < k → n < 4 → suits_slot N rows q n (G q n) ≡ true
  unfolding suits_services
  services-suit zero e q n i j = absurd (omega arith)
  services-suit (suc k) e q n i j =
      let a = suits_slots N rows G k 4 in
      below_next (λ q. suits_slot N rows q n (G q n) ≡ true) k q i (slots-suit k 4 (and_left a (suits_services N rows G k) e) n j)
      (λ l. services-suit k (and_right a (suits_services N rows G k) e) q n l j)

  suit-slots : (q k : ℕ) → ((n : ℕ) → n < k → suits_slot N rows q n (G q n) ≡ true) → suits_slots N rows G q k ≡ true
  unfolding suits_slots
  suit-slots q zero h = refl
  suit-slots q (suc k) h = rw (h k (omega arith), suit-slots q k (λ n l. h n (omega arith)))

  pub suit-services : (k : ℕ) → ((q n : ℕ) → q < k → n < 4 → suits_slot N rows q n (G q n) ≡ true) → suits_services N rows G k ≡ true
  unfolding suits_services
  suit-services zero h = refl
  suit-services (suc k) h =
      rw (suit-slots k 4 (λ n l. h k n (omega arith) l), suit-services k (λ q n l. h q n (omega arith)))

-- ---- equal bytes

pub same_true : (s : List ℕ) → same_bytes s s ≡ true
unfolding same_bytes
same_true [] = refl
same_true (a ∷ s) = rw (eq-eqb a a refl, same_true s)

pub same-equal : (s t : List ℕ) → same_bytes s t ≡ true → s ≡ t
unfolding same_bytes
same-equal [] [] e = refl
same-equal [] (b ∷ t) e = absurd (let z : ◌≡◌ {A = ℕ} 0 1 = cc in omega arith)
same-equal (a ∷ s) [] e = absurd (let z : ◌≡◌ {A = ℕ} 0 1 = cc in omega arith)
same-equal (a ∷ s) (b ∷ t) e =
    let p = eqb-true a b (and_left (eqb a b) (same_bytes s t) e) in
    let q = same-equal s t (and_right (eqb a b) (same_bytes s t) e) in
    cc

-- ---- decoding

-- Bytes that stand for a state decode to it.
pub decode-state-complete : {N : Network} {rows : ℕ} {s : List ℕ} {G : State} → Stands N rows s G → decode_state N rows s ≡ some G
unfolding decode_state
decode-state-complete {N} {rows} {s} {G} h =
    let r : read_state s ≡ G = ap read_state h.bytes ∙ read-state h.shape in
    let a : suits_services N rows G 4 ≡ true = suit-services N rows G 4 h.shape.suited in
    let k : suits_all_keys N G 4 ≡ true = suit-keys N G h.shape.keyless h.shape.keys_apart 4 in
    let b : same_bytes (state_bytes G) s ≡ true = rw h.bytes (same_true (state_bytes G)) in
    rw (r, a, k, b)

read-shape : (N : Network) (rows : ℕ) (s : List ℕ) → Octets s → suits_services N rows (read_state s) 4 ≡ true → suits_all_keys N (read_state s) 4 ≡ true
    → HasShape N rows (read_state s)
unfolding read_state
read-shape N rows s o e k = record {
  made = λ q n i j. rw (lt-ltb q 4 i, lt-ltb n 4 j) (slot-made s o (slot_start q n));
  suited = services-suit N rows (read_state s) 4 e;
  elsewhere = outside;
  keyless = keys_none N (read_state s) outside k;
  keys_apart = keys-apart N (read_state s) outside k;
}
  where
    inside : (q n : ℕ) → Dec (q < 4) → 4 ≤ n → pick (ltb q 4 && ltb n 4) (read_slot s (slot_start q n)) free ≡ free
    inside q n (yes i) j = rw (lt-ltb q 4 i, le-ltb n 4 j)
    inside q n (no i) j = rw (le-ltb q 4 (omega arith))

    outside : (q n : ℕ) → (4 ≤ q) ⊎ (4 ≤ n) → pick (ltb q 4 && ltb n 4) (read_slot s (slot_start q n)) free ≡ free
    outside q n (inl i) = rw (le-ltb q 4 i)
    outside q n (inr j) = inside q n (dec_lt q 4) j

picked : (b : Bool) (F G : State) → pick b (some F) none ≡ some G → (b ≡ true) × (F ≡ G)
picked true F G e = (refl, cc)
picked false F G e = (cc, cc)

-- Bytes that decode to a state stand for it.
pub decode-state-sound : {N : Network} {rows : ℕ} {s : List ℕ} {G : State} → Octets s → decode_state N rows s ≡ some G → Stands N rows s G
unfolding decode_state
decode-state-sound {N} {rows} {s} {G} o e =
    let R = read_state s in
    let x = suits_services N rows R 4 in
    let y = suits_all_keys N R 4 in
    let z = same_bytes (state_bytes R) s in
    let p = picked ((x && y) && z) R G e in
    let f = and_left (x && y) z p.0 in
    let shape = read-shape N rows s o (and_left x y f) (and_right x y f) in
    subst (Stands N rows s) p.1 (record { shape = shape; bytes = sym (same-equal (state_bytes R) s (and_right (x && y) z p.0)) })

-- ---- one byte form

-- Two states of the shape with equal bytes are equal.
pub state-bytes-injective : {N : Network} {rows : ℕ} {G H : State} → HasShape N rows G → HasShape N rows H → state_bytes G ≡ state_bytes H → G ≡ H
state-bytes-injective g h e = sym (read-state g) ∙ ap read_state e ∙ read-state h

-- Bytes stand for one state at most.
pub stands-unique : {N : Network} {rows : ℕ} {s : List ℕ} {G H : State} → Stands N rows s G → Stands N rows s H → G ≡ H
stands-unique g h = state-bytes-injective g.shape h.shape (sym g.bytes ∙ h.bytes)

-- 14: where decoding gives none, the bytes stand for no state of this file's shape.
pub none-stands : {N : Network} {rows : ℕ} {s : List ℕ} → decode_state N rows s ≡ none → (G : State) → Stands N rows s G → ⊥
none-stands e G h = let d = decode-state-complete h in let z : ◌≡◌ {A = ℕ} 0 1 = cc in omega arith

-- And only there.
pub refused-14 : {N : Network} {rows : ℕ} {s : List ℕ} → Octets s → ((G : State) → Stands N rows s G → ⊥) → decode_state N rows s ≡ none
refused-14 {N} {rows} {s} o h = by (decode_state N rows s) refl
  where
    by : (d : Optional State) → decode_state N rows s ≡ d → d ≡ none
    by none e = refl
    by (some G) e = absurd (h G (decode-state-sound o e))

-- Bytes that stand for a state are 65,536.
pub stands-length : {N : Network} {rows : ℕ} {s : List ℕ} {G : State} → Stands N rows s G → length s ≡ 65536
stands-length h = ap length h.bytes ∙ state-length h.shape

-- ---- fresh

or-true : (b : Bool) → (b || true) ≡ true
or-true true = refl
or-true false = refl

undone-quiet : (n : ℕ) (B : Behaviour) → quiet_elsewhere n (λ i. undone) B ≡ true
unfolding quiet_elsewhere
undone-quiet zero B = refl
undone-quiet (suc n) B = rw (or-true, undone-quiet n B)

mutual
  unfolding suits

  undone-suits : (N : Network) (rows : ℕ) (B : Behaviour) → suits N rows (λ i. undone) B ≡ true
  undone-suits N rows (nil r) = refl
  undone-suits N rows (one_way r o x) = refl
  undone-suits N rows (request_response r o x c d) = undone-suits N rows d
  undone-suits N rows (notification r o e) = refl
  undone-suits N rows (solicit_response r o e x) = refl
  undone-suits N rows (if_then_else r e a b) = rw (undone-suits N rows a, undone-suits N rows b)
  undone-suits N rows (while_do r e b) = undone-suits N rows b
  undone-suits N rows (sequence r a b) = rw (undone-suits N rows a, undone-suits N rows b)
  undone-suits N rows (parallel r a b) = rw (undone-suits N rows a, undone-suits N rows b)
  undone-suits N rows (assign r x e) = refl
  undone-suits N rows (choice r m) = undone-branches N rows m
  undone-suits N rows (waiting r o x) = refl
  undone-suits N rows (answering r o c d) = undone-suits N rows d

  undone-branches : (N : Network) (rows : ℕ) (m : Branches) → suits_branches N rows (λ i. undone) m ≡ true
  undone-branches N rows (last_branch r a b) = rw (undone-suits N rows a, undone-suits N rows b)
  undone-branches N rows (branch r a b m) = rw (undone-suits N rows a, undone-suits N rows b, undone-branches N rows m)

pub new-made : WellMade new_session
unfolding AllMessages
new-made = record { bounded = end-well-formed session_levels session_nodes; up_to_four = omega arith; messages = tt; no_rows_past = λ r h. refl; key_fits = omega arith }

pub new-suits : (N : Network) (rows q : ℕ) (B : Behaviour) → suits_behaviour N rows q new_session (some B) ≡ true
unfolding suits_queue
new-suits N rows q B = rw (undone-suits N rows B, undone-quiet 256 B)

-- Past the services there is none.
pub no-service : (l : List Service) (q : ℕ) → length l ≤ q → service_of_row l q ≡ none
unfolding entry
no-service [] q h = refl
no-service (s ∷ l) zero h = absurd (omega arith)
no-service (s ∷ l) (suc q) h = no-service l q (omega arith)

-- Fresh state has the shape, in a file of at most four services.
pub fresh-shape : (N : Network) (rows : ℕ) → length N.services ≤ 4 → HasShape N rows (fresh_state N)
fresh-shape N rows few = record {
  made = λ q n i j. made q n (eqb n 0);
  suited = λ q n i j. suited q n (ℕ_discrete n 0);
  elsewhere = λ q n e. elsewhere q n e;
  keyless = λ q n S h e. no_key q n S (eqb n 0) (client_of (service_of_row N.services q)) e;
  keys_apart = λ q n m S R a b e f g. absurd (not_first q n S (held_first N q n a) e);
}
  where
    no_key : (q n : ℕ) (S : Session) (t : Bool) (b : Optional Behaviour) → pick t (fresh_slot b) free ≡ live S → S.key ≡ 0
    no_key q n S true none e = absurd (not_live e)
    no_key q n S true (some B) e = sym (ap (λ (x : Slot). key_in x) e)
    no_key q n S false b e = absurd (not_live e)

    not_first : (q n : ℕ) (S : Session) → 1 ≤ n → fresh_state N q n ≡ live S → ⊥
    not_first q n S i e = not_live (sym (rw (ne_eqb n 0 (λ z. omega arith)) refl) ∙ e)

    slot-made : (b : Optional Behaviour) → MadeSlot (fresh_slot b)
    slot-made none = tt
    slot-made (some B) = new-made

    made : (q n : ℕ) (t : Bool) → MadeSlot (pick t (fresh_slot (client_of (service_of_row N.services q))) free)
    made q n true = slot-made (client_of (service_of_row N.services q))
    made q n false = tt

    client : (q : ℕ) (b : Optional Behaviour) → client_of (service_of_row N.services q) ≡ b → suits_slot N rows q 0 (fresh_slot b) ≡ true
    client q none e = refl
    client q (some B) e = rw e (new-suits N rows q B)

    suited : (q n : ℕ) → Dec (n ≡ 0) → suits_slot N rows q n (fresh_state N q n) ≡ true
    suited q n (yes e) = rw e (client q (client_of (service_of_row N.services q)) refl)
    suited q n (no e) = rw (ne_eqb n 0 e) refl

    elsewhere : (q n : ℕ) → (4 ≤ q) ⊎ (4 ≤ n) → fresh_state N q n ≡ free
    elsewhere q n (inl i) = by (eqb n 0)
      where
        by : (t : Bool) → pick t (fresh_slot (client_of (service_of_row N.services q))) free ≡ free
        by true = rw (no-service N.services q (omega arith))
        by false = refl
    elsewhere q n (inr j) = rw (ne_eqb n 0 (λ e. omega arith))

pub fresh-length : (N : Network) → length N.services ≤ 4 → length (state_bytes (fresh_state N)) ≡ 65536
fresh-length N few = state-length (fresh-shape N 0 few)
