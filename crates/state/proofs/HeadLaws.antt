-- The head of a live slot: its length, its fields where they are read, the test of its bytes, and what changes it. (`head-octets` stands in
-- OctetLaws.) A field that takes the place of bytes kept 0 enters `head_bytes`, `head_form` and these laws.
use Rattle.std.specs.Prelude.{◌≡◌, List, [], ◌∷◌, ◌++◌, true, ◌&&◌, ℕ, ◌+◌, ◌≤◌, length, eqb}
use Rattle.std.proofs.Math.Path.{refl}
use Rattle.std.proofs.Common.{sym, eqb-true}
use native.Mathlib.Omega.{arith}
use Rattle.basics.specs.TestLaws.{and_left, and_right}
use Rattle.tree_forest.specs.Forest.{Forest}
use Rattle.scalar.specs.Value.{Value}
use Rattle.wire.specs.Wire.{byte_at, with_part}
use Rattle.tree.specs.Encode.{Octets, encode, root_count}
use Rattle.state.specs.Places.{head_size, length_place, key_place}
use Rattle.state.specs.Session.{Progresses, Queued, Session, with_tree, with_queue, with_progress, with_key, new_session}
use Rattle.state.specs.Bytes.{zeros, tree_bytes, head_bytes, tree_length, read_key}
use Rattle.wire.specs.Wire.{u16_bytes, u32_bytes}
use Rattle.state.specs.Form.{all_zero, head_form}
use Rattle.state.proofs.PartLaws.{length-zeros, HoldsAt, holds-first, holds-rest, replace-middle}
use Rattle.state.proofs.HoldLaws.{holds-head, holds-tail, holds-u16, holds-u32, holds-join, zero-holds, holds-zero, two-holds, u16-holds, u32-holds}

pub head-size : (S : Session) → length (head_bytes S) ≡ head_size
unfolding head_bytes
head-size S = omega (arith, length-zeros 8)

-- ---- its fields

module _ {s : List ℕ} {at : ℕ} (S : Session) (h : HoldsAt s at (head_bytes S)) where
  pub head_live : byte_at s at ≡ 1
  unfolding head_bytes
  head_live = holds-head h

  pub head-length : tree_length s at ≡ length (tree_bytes S.tree)
  unfolding head_bytes
  head-length = holds-u16 (length (tree_bytes S.tree)) (holds-rest (1 ∷ 0 ∷ []) _ 2 refl h)

  -- What follows the tree's length.
  after-length : HoldsAt s (at + key_place) (u32_bytes S.key ++ zeros 8)
  unfolding head_bytes
  after-length = holds-rest (1 ∷ 0 ∷ u16_bytes (length (tree_bytes S.tree))) (u32_bytes S.key ++ zeros 8) 4 refl h

  pub head-key : read_key s at ≡ S.key
  head-key = holds-u32 S.key (holds-first (u32_bytes S.key) (zeros 8) after-length)

  pub head-tested : head_form s at ≡ true
  unfolding head_bytes head_form
  head-tested =
      let e : at + 8 ≡ at + 4 + 4 = omega arith in
      rw (head_live, holds-head (holds-tail h), e, holds-zero 8 (holds-rest (u32_bytes S.key) (zeros 8) 4 refl after-length))

pub tested-head : (s : List ℕ) → Octets s → (at : ℕ) (S : Session) → at + head_size ≤ length s → head_form s at ≡ true
    → tree_length s at ≡ length (tree_bytes S.tree) → read_key s at ≡ S.key → HoldsAt s at (head_bytes S)
unfolding head_bytes head_form
tested-head s o at S i h e k =
    let l = u16_bytes (length (tree_bytes S.tree)) in
    let a = eqb (byte_at s at) 1 in
    let b = eqb (byte_at s (at + 1)) 0 in
    let z = all_zero s (at + 8) 8 in
    let f = and_left (a && b) z h in
    let first = two-holds s o at (omega arith) (eqb-true (byte_at s at) 1 (and_left a b f)) (eqb-true (byte_at s (at + 1)) 0 (and_right a b f)) in
    let size : HoldsAt s (at + 2) l = rw e at (u16-holds s o (at + 2) (omega arith)) in
    let key : HoldsAt s (at + 4) (u32_bytes S.key) = rw k at (u32-holds s o (at + 4) (omega arith)) in
    let w : at + 4 + 4 ≡ at + 8 = omega arith in
    holds-join (1 ∷ 0 ∷ l) (u32_bytes S.key ++ zeros 8) 4 refl (holds-join (1 ∷ 0 ∷ []) l 2 refl first size)
    (holds-join (u32_bytes S.key) (zeros 8) 4 refl key (rw w (zero-holds s (at + 8) 8 (omega arith) (and_right (a && b) z h))))

-- ---- what changes it

pub head-tree : (S : Session) (F : Forest Value) → head_bytes (with_tree S F) ≡ with_part (head_bytes S) length_place (u16_bytes (length (tree_bytes F)))
unfolding head_bytes
head-tree S F =
    sym (replace-middle (1 ∷ 0 ∷ []) (u16_bytes (length (tree_bytes S.tree))) (u32_bytes S.key ++ zeros 8) (u16_bytes (length (tree_bytes F))) 2 refl refl)

pub head-queue : (S : Session) (l : List Queued) → head_bytes (with_queue S l) ≡ head_bytes S
unfolding head_bytes
head-queue S l = refl

pub head-progress : (S : Session) (p : Progresses) → head_bytes (with_progress S p) ≡ head_bytes S
unfolding head_bytes
head-progress S p = refl

pub head-with-key : (S : Session) (x : ℕ) → head_bytes (with_key S x) ≡ with_part (head_bytes S) key_place (u32_bytes x)
unfolding head_bytes
head-with-key S x =
    sym (replace-middle (1 ∷ 0 ∷ u16_bytes (length (tree_bytes S.tree))) (u32_bytes S.key) (zeros 8) (u32_bytes x) 4 refl refl)

pub head-new : head_bytes new_session ≡ 1 ∷ 0 ∷ 5 ∷ 0 ∷ zeros 12
unfolding head_bytes encode root_count zeros
head-new = refl
