-- Bytes that were stored, said as a part that is replaced.
use mathlib.Core.Path.{◌≡◌, refl, sym, ap, ◌∙◌}
use mathlib.Core.List.{List, [], ◌++◌}
use mathlib.Core.Bool.{Bool}
use Prim.Native.Nat.{ℕ, ◌+◌, ◌-◌, ◌≤◌, ◌<◌}
use native.Mathlib.Omega.{arith}
use borrow.Author.Tests.{le-leb, lt-leb}
use lib.ListN.{length, take, drop, replicate, length-take, length-drop}
use lib.Seq.{drop-drop}
use borrow.Rule.Slice.PartMut.{put_mid}
use Rattle.wire.specs.Wire.{part, with_part, put_u16, put_u32}
use Rattle.basics.specs.Choice.{pick}
use Rattle.wire.specs.WireLaws.{put-16, put_32}
use Rattle.tree_edit.specs.Wrote.{stored}
use Rattle.state.specs.Places.{slot_size, tree_room, length_place, key_place, tree_place}
use Rattle.state.specs.Bytes.{zeros, padded, slot_bytes, tree_length}
use Rattle.wire.specs.Wire.{u16_bytes}
use Rattle.state.proofs.PartLaws.{length-zeros, length-padded}
use Rattle.state.proofs.FreshLaws.{replicate-zeros}
use Rattle.state_slots.specs.Slots.{tree_in, tree_stored, key_stored, freed}

pub store-padded : (s : List ℕ) (at size : ℕ) (src : List ℕ) (n : ℕ) → n ≤ size → n ≤ length src → stored s at size src n ≡ with_part s at (padded size (take n src))
store-padded s at size src n h l =
    let k : length (take n src) ≡ n = omega (arith, length-take n src, l) in
    let p : take n src ++ replicate (size - n) 0 ≡ padded size (take n src) =
    ap (λ (x : List ℕ). take n src ++ x) (replicate-zeros (size - n) ∙ ap (λ (j : ℕ). zeros (size - j)) (sym k)) in
    let e : size ≡ length (padded size (take n src)) = sym (length-padded size (take n src) (omega (arith, k, h))) in
    ap (λ (x : List ℕ). take at s ++ (x ++ drop (at + size) s)) p ∙ ap (λ (j : ℕ). take at s ++ (padded size (take n src) ++ drop (at + j) s)) e

-- a part that is filled with 0
fill-zeros : (s l : List ℕ) (at n : ℕ) → at + n ≤ length s → l ≡ replicate (length (take (at + n - at) (drop at s))) 0
    → put_mid at (at + n - at) s l ≡ with_part s at (zeros n)
fill-zeros s l at n h e =
    let x : at + n - at ≡ n = omega arith in
    let left : length (take (at + n - at) (drop at s)) ≡ n = simp (length-take, length-drop) (omega arith) in
    let same : l ≡ replicate n 0 = rw left at e in
    rw (same, replicate-zeros n, x, drop-drop n at s, length-zeros n) refl

pub release-zeros : (s l : List ℕ) (at : ℕ) → at + slot_size ≤ length s → l ≡ replicate (length (take (at + slot_size - at) (drop at s))) 0
    → put_mid at (at + slot_size - at) s l ≡ freed s at
unfolding freed slot_bytes
release-zeros s l at h e = fill-zeros s l at slot_size h e

pub tree-bytes : (s src : List ℕ) (slot n : ℕ) {s₁ s₂ : List ℕ} {i : ℕ} → (slot + slot_size ≤ length s) × (n ≤ tree_room) × (n ≤ length src) → s₁ ≡ put_u16 s (slot + length_place) n
    → i ≡ n → s₂ ≡ stored s₁ (slot + tree_place) tree_room src i → s₂ ≡ tree_stored s slot src n
unfolding tree_stored
tree-bytes s src slot n {s₁} {s₂} {i} h a k b =
    let u : s₁ ≡ with_part s (slot + length_place) (u16_bytes n) = a ∙ put-16 s (slot + length_place) n (omega (arith, h.0)) in
    b ∙ (ap (λ (j : ℕ). stored s₁ (slot + tree_place) tree_room src j) k ∙ (store-padded s₁ (slot + tree_place) tree_room src n h.1 h.2
    ∙ ap (λ (x : List ℕ). with_part x (slot + tree_place) (padded tree_room (take n src))) u))

pub key-bytes : (s : List ℕ) (slot x : ℕ) {s₁ : List ℕ} → slot + slot_size ≤ length s → s₁ ≡ put_u32 s (slot + key_place) x → s₁ ≡ key_stored s slot x
unfolding key_stored
key-bytes s slot x h e = e ∙ put_32 s (slot + key_place) x (omega (arith, h))

-- ---- the tree's bytes

module _ (s : List ℕ) (at : ℕ) {u i : ℕ} (a : u ≡ tree_length s at) (b : i ≡ u) where
  pub tree-none : tree_room < i → [] ≡ tree_in s at
  unfolding tree_in
  tree-none l = sym (ap (λ (t : Bool). pick t (part s (at + tree_place) (tree_length s at)) []) (lt-leb (tree_length s at) tree_room (omega (arith, a, b, l))))

  pub tree-found : i ≤ tree_room → take (at + tree_place + i - (at + tree_place)) (drop (at + tree_place) s) ≡ tree_in s at
  unfolding tree_in
  tree-found l =
      let e : at + tree_place + i - (at + tree_place) ≡ tree_length s at = omega (arith, a, b) in
      ap (λ (n : ℕ). take n (drop (at + tree_place) s)) e
      ∙ sym (ap (λ (t : Bool). pick t (part s (at + tree_place) (tree_length s at)) []) (le-leb (tree_length s at) tree_room (omega (arith, a, b, l))))
