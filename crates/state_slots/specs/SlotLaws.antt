-- Which session a slot holds after a change of some of its bytes.
use Rattle.std.specs.Prelude.{◌≡◌, refl, List, [], ◌++◌, Bool, ℕ, ◌+◌, ◌-◌, ◌≤◌, ◌<◌, length, take, drop, set}
use Rattle.std.proofs.Common.{sym, ap, subst, ◌∙◌, add-zero, arith, length-set, take-append-drop, le-leb}
use Rattle.tree_forest.specs.Forest.{Forest}
use Rattle.scalar.specs.Value.{Value}
use Rattle.basics.specs.Choice.{pick}
use Rattle.wire.specs.Wire.{part, with_part}
use Rattle.wire.specs.WireLaws.{length-with_part}
use Rattle.network_syntax.specs.Syntax.{Network}
use Rattle.state.specs.Places.{slot_size, tree_room, length_place, key_place, tree_place, slot_start, row_start}
use Rattle.state.specs.Session.{Progress, advance, Session, with_tree, with_progress, with_key, Slot, free, live, State, set_slot, new_session}
use Rattle.state.specs.Bytes.{zeros, padded, progress_bytes, tree_bytes, slot_bytes, tree_length, read_key, state_bytes}
use Rattle.wire.specs.Wire.{u16_bytes, u32_bytes}
use Rattle.state.specs.Shape.{WellMade, MadeSlot, Stands}
use Rattle.state.proofs.ShapeLaws.{new-made}
use Rattle.state.proofs.SizeLaws.{Sized, slot-size, session-tree-size, progress-size, made-fits, shape-sized, sized-length}
use Rattle.state.proofs.PartLaws.{HoldsAt, holds-first, holds-part, length-padded, replace-within, replace-both, replace-again, part-replaced}
use Rattle.state.proofs.HeadLaws.{head-length, head-key}
use Rattle.state.proofs.ReadLaws.{slot-parts}
use Rattle.state.proofs.FreshLaws.{store-part, part-back, new-stores}
use Rattle.state.proofs.ChangeLaws.{set-bytes, slot-part, change-tree, change-key, change-row}
use Rattle.state_slots.specs.Slots.{tree_in, begun, tree_stored, key_stored, freed}
use Rattle.state_progress.specs.Stored.{row_stored}
use Rattle.state_slots.specs.Living.{Living}

-- Another progress of a row.
pub row-set : {s : List ℕ} {at : ℕ} {S : Session} → Living s at S → (r : ℕ) (x : Progress) → r < 256
    → row_stored s at r x ≡ with_part s at (slot_bytes (live (with_progress S (advance S.progress r x))))
unfolding row_stored
row-set {s} {at} {S} h r x l =
    let e : row_start at r ≡ at + row_start 0 r = omega arith in
    ap (λ (k : ℕ). with_part s k (progress_bytes x)) e
    ∙ (sym (replace-within s at slot_size (row_start 0 r) (progress_bytes x) h.inside (omega (arith, l, progress-size x)))
    ∙ ap (with_part s at) (ap (λ (t : List ℕ). with_part t (row_start 0 r) (progress_bytes x)) h.bytes ∙ sym (change-row S (made-fits h.made) r x l)))

-- Another tree, of the first n bytes of `tree`.
pub tree_set : {s : List ℕ} {at : ℕ} {S : Session} → Living s at S → (F : Forest Value) (tree : List ℕ) (n : ℕ) → take n tree ≡ tree_bytes F
    → n ≡ length (tree_bytes F) → n ≤ tree_room → tree_stored s at tree n ≡ with_part s at (slot_bytes (live (with_tree S F)))
unfolding tree_stored
tree_set {s} {at} {S} h F tree n t e l =
    let a = u16_bytes (length (tree_bytes F)) in
    let b = padded tree_room (tree_bytes F) in
    let k : length (tree_bytes F) ≤ tree_room = omega (arith, e, l) in
    ap (λ (j : ℕ). with_part (with_part s (at + length_place) (u16_bytes j)) (at + tree_place) (padded tree_room (take n tree))) e
    ∙ (ap (λ (y : List ℕ). with_part (with_part s (at + length_place) a) (at + tree_place) (padded tree_room y)) t
    ∙ (sym (replace-both s at slot_size length_place tree_place a b h.inside (omega arith) (omega (arith, length-padded tree_room (tree_bytes F) k)))
    ∙ ap (with_part s at) (ap (λ (y : List ℕ). with_part (with_part y length_place a) tree_place b) h.bytes ∙ sym (change-tree S (made-fits h.made) F k))))

-- Another key.
pub key_set : {s : List ℕ} {at : ℕ} {S : Session} → Living s at S → (x : ℕ) → key_stored s at x ≡ with_part s at (slot_bytes (live (with_key S x)))
unfolding key_stored
key_set {s} {at} {S} h x =
    sym (replace-within s at slot_size key_place (u32_bytes x) h.inside (omega arith))
    ∙ ap (with_part s at) (ap (λ (t : List ℕ). with_part t key_place (u32_bytes x)) h.bytes ∙ sym (change-key S (made-fits h.made) x))

-- A free slot becomes a new session by three stores.
pub begin-set : (s : List ℕ) (at : ℕ) → at + slot_size ≤ length s → part s at slot_size ≡ slot_bytes free
    → begun s at ≡ with_part s at (slot_bytes (live new_session))
unfolding begun
begin-set s at h e =
    let j : at + tree_place + 2 ≡ at + (tree_place + 2) = omega arith in
    let l = slot_bytes free in
    let k : length l ≡ slot_size = slot-size free tt in
    let i : at ≤ length s = omega (arith, h) in
    let b : with_part s at l ≡ s = ap (with_part s at) (sym e) ∙ part-back s at slot_size h in
    let s1 : with_part s at (set l 0 1) ≡ set s at 1 = store-part s at l 0 1 i (omega (arith, k)) ∙ rw (add-zero at, b) in
    let k1 = length-set l 0 1 in
    let s2 : with_part s at (set (set l 0 1) length_place 5) ≡ set (set s at 1) (at + length_place) 5 =
    store-part s at (set l 0 1) length_place 5 i (omega (arith, k, k1)) ∙ rw s1 in
    let k2 = length-set (set l 0 1) length_place 5 in
    rw j (sym (ap (with_part s at) new-stores ∙ store-part s at (set (set l 0 1) length_place 5) (tree_place + 2) 6 i (omega (arith, k, k1, k2)) ∙ rw s2))

-- In the bytes of a state.
pub begun-state : {G : State} → Sized G → (q n : ℕ) → q < 4 → n < 4 → G q n ≡ free
    → begun (state_bytes G) (slot_start q n) ≡ state_bytes (set_slot G q n (live new_session))
begun-state {G} z q n i j e =
    begin-set (state_bytes G) (slot_start q n) (omega (arith, sized-length z)) (slot-part z q n i j ∙ ap slot_bytes e)
    ∙ sym (set-bytes z q n (live new_session) (slot-size (live new_session) new-made) i j)

-- One change after another: the slot holds what was written last.
pub living-set : {s : List ℕ} {at : ℕ} {S : Session} → Living s at S → (S' : Session) → WellMade S' → Living (with_part s at (slot_bytes (live S'))) at S'
living-set {s} {at} h S' w = record {
  inside = omega (arith, h.inside, length-with_part s at (slot_bytes (live S')) (omega (arith, h.inside, slot-size (live S') w)), slot-size (live S') w);
  bytes = subst (λ (n : ℕ). part (with_part s at (slot_bytes (live S'))) at n ≡ slot_bytes (live S')) (slot-size (live S') w)
      (part-replaced s at (slot_bytes (live S')) (omega (arith, h.inside)));
  made = w;
}

pub set-again : {s : List ℕ} {at : ℕ} {S : Session} → Living s at S → (S' : Session) (x : Slot) → WellMade S' → MadeSlot x
    → with_part (with_part s at (slot_bytes (live S'))) at (slot_bytes x) ≡ with_part s at (slot_bytes x)
set-again {s} {at} h S' x w m =
    replace-again s at (slot_bytes (live S')) (slot_bytes x) (omega (arith, h.inside)) (slot-size x m ∙ sym (slot-size (live S') w))

-- A slot that is freed.
pub free-set : (s : List ℕ) (at : ℕ) → freed s at ≡ with_part s at (slot_bytes free)
unfolding freed
free-set s at = refl

-- In the bytes of a state.
pub stands-living : {N : Network} {rows : ℕ} {s : List ℕ} {G : State} → Stands N rows s G → (q n : ℕ) (S : Session) → q < 4 → n < 4 → G q n ≡ live S
    → Living s (slot_start q n) S
stands-living {N} {rows} {s} {G} h q n S i j e = record {
  inside = omega (arith, ap length h.bytes, sized-length (shape-sized h.shape));
  bytes = ap (λ (t : List ℕ). part t (slot_start q n) slot_size) h.bytes ∙ (slot-part (shape-sized h.shape) q n i j ∙ ap slot_bytes e);
  made = subst MadeSlot e (h.shape.made q n i j);
}

pub stands_set : {N : Network} {rows : ℕ} {s : List ℕ} {G : State} → Stands N rows s G → (q n : ℕ) (x : Slot) → q < 4 → n < 4 → MadeSlot x
    → with_part s (slot_start q n) (slot_bytes x) ≡ state_bytes (set_slot G q n x)
stands_set {N} {rows} {s} {G} h q n x i j m =
    ap (λ (t : List ℕ). with_part t (slot_start q n) (slot_bytes x)) h.bytes ∙ sym (set-bytes (shape-sized h.shape) q n x (slot-size x m) i j)

-- ---- reading

pub living-holds : {s : List ℕ} {at : ℕ} {S : Session} → Living s at S → HoldsAt s at (slot_bytes (live S))
living-holds {s} {at} {S} h = record {
  after = drop slot_size (drop at s);
  bytes = sym (take-append-drop slot_size (drop at s)) ∙ ap (λ (x : List ℕ). x ++ drop slot_size (drop at s)) h.bytes;
}

pub living-tree : {s : List ℕ} {at : ℕ} {S : Session} → Living s at S → tree_in s at ≡ tree_bytes S.tree
unfolding tree_in
living-tree {s} {at} {S} h =
    let p = slot-parts S (made-fits h.made) (living-holds h) in
    let t = tree_bytes S.tree in
    let l : length t ≤ 1013 = session-tree-size S.tree h.made.bounded in
    let e = head-length S p.head in
    ap (λ (b : Bool). pick b (part s (at + tree_place) (tree_length s at)) []) (le-leb (tree_length s at) tree_room (omega (arith, e, l)))
    ∙ (ap (part s (at + tree_place)) e ∙ holds-part (holds-first t (zeros (tree_room - length t)) p.tree) (length t) refl)

pub living-key : {s : List ℕ} {at : ℕ} {S : Session} → Living s at S → read_key s at ≡ S.key
living-key {S = S} h = head-key S (slot-parts S (made-fits h.made) (living-holds h)).head
