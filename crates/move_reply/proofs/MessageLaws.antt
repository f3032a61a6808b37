-- The message of a reply, at each of the ways out of the code.
use mathlib.Core.Path.{◌≡◌, refl, ap, subst, ◌∙◌}
use mathlib.Core.Bool.{Bool, true, not}
use mathlib.Core.List.{List, ◌++◌}
use Prim.Native.Nat.{ℕ, ◌+◌, ◌≤◌, ◌<◌}
use native.Mathlib.Omega.{arith}
use lib.ListN.{length, take, drop}
use lib.Seq.{take_all}
use Rattle.basics.specs.TestLaws.{unequal}
use Rattle.tree_forest.specs.Forest.{tree, Lookup, absent}
use Rattle.tree_forest.specs.Path.{Path, read}
use Rattle.scalar.specs.Value.{Value}
use Rattle.tree.specs.Encode.{Encodes, empty}
use Rattle.tree_forest.specs.Limits.{session_levels, session_nodes}
use Rattle.tree.specs.Decode.{decode, is_tree}
use Rattle.tree_forest.specs.Forest.{is_present}
use Rattle.tree.specs.DecodeLaws.{decode-complete}
use Rattle.tree.specs.Ids.{is_path}
use Rattle.tree.specs.Ids as ids
use Rattle.tree.specs.Standing.{Spot, Followed}
use Rattle.tree.specs.StandingLaws.{encodes-root, root-good}
use Rattle.tree_edit.specs.Wrote.{Wrote}
use Rattle.tree_edit.specs.WroteLaws.{wrote-more, wrote-all-of, wrote_of}
use Rattle.tree_edit.specs.Change.{alone, subtree_of}
use Rattle.network.specs.Form as network
use Rattle.network.specs.Layout.{path_count}
use Rattle.network.specs.Decode.{path_of}
use Rattle.network_rows.specs.Readers.{path_ids}
use Rattle.network_row_parts.specs.PathLaws.{ids-path, path-is}
use Rattle.state.specs.Session.{Session}
use Rattle.wire.specs.Wire.{put_u32, u32_bytes}
use Rattle.wire.specs.WireLaws.{put_32}
use Rattle.state.proofs.SizeLaws.{session-tree-size}
use Rattle.state_slots.specs.Slots.{tree_in}
use Rattle.state_slots.specs.SlotLaws.{living-tree}
use Rattle.state_slots.specs.Living.{Living}
use Rattle.move_reply.specs.Replying.{ReadsReply}
use Rattle.std.specs.Prelude.{Option, Some, None}

-- ---- `read_reply`

no_length : {n : ℕ} {A : Type 0} → None ≡ Some n → A
no_length e = absurd (let z : ◌≡◌ {A = ℕ} 0 1 = cc in omega arith)

module _ (file s : List ℕ) (slot c : ℕ) {t is : List ℕ} (e : t ≡ tree_in s slot) (d : is ≡ path_ids file c) where
  encodes : {S : Session} → Living s slot S → Encodes session_levels session_nodes t (tree empty S.tree)
  encodes h = record { bytes = e ∙ living-tree h; good = h.made.bounded }

  missing : {o : List ℕ} → (network.WellFormed file → c < path_count file → (S : Session) → Living s slot S → read (path_of file c) S.tree ≡ absent)
      → ReadsReply file s slot c o None
  missing f = record { tells = f; inside = λ n e. no_length e }

  pub read-long : {o : List ℕ} → 1024 < length t → ReadsReply file s slot c o None
  read-long l = missing (λ w p S h. absurd (omega (arith, l, ap length (e ∙ living-tree h), session-tree-size S.tree h.made.bounded)))

  pub read-no-path : {o : List ℕ} {b : Bool} → b ≡ is_path is → not b ≡ true → ReadsReply file s slot c o None
  read-no-path k n = missing (λ w p S h. unequal (k ∙ (ap is_path d ∙ ids-path file w c p)) n)

  pub read-no-tree : {o : List ℕ} {b : Bool} → b ≡ is_tree 6 48 t → not b ≡ true → ReadsReply file s slot c o None
  read-no-tree k n =
      missing (λ w p S h. unequal (k ∙ ap (λ (l : Lookup Value). is_present l) (decode-complete session_levels session_nodes t (tree empty S.tree) (encodes h))) n)

  module _ {f : Option ℕ} (l : Followed t is f) where
    spot : {g : Option ℕ} → f ≡ g → network.WellFormed file → c < path_count file → (S : Session) → Living s slot S
        → Spot t (ids.last_id (ids.path_from_ids is)) g (read (path_of file c) S.tree)
    spot {g} k w p S h =
        subst (λ (x : Path). Spot t (ids.last_id (ids.path_from_ids is)) g (read x S.tree)) (ap ids.path_from_ids d ∙ path-is file c)
        (subst (λ (y : Option ℕ). Spot t (ids.last_id (ids.path_from_ids is)) y (read (ids.path_from_ids is) S.tree)) k
        (l.tells 0 (tree empty S.tree) (encodes-root session_levels session_nodes t (tree empty S.tree) (omega arith) (omega arith) (encodes h))
        (ap is_path d ∙ ids-path file w c p)))

    pub read-nothing : {o : List ℕ} → f ≡ None → ReadsReply file s slot c o None
    read-nothing k = missing (λ w p S h. spot k w p S h)

    pub read-message : {o o' : List ℕ} {at n : ℕ} → f ≡ Some at → Wrote o o' 0 n n (subtree_of (ids.path_from_ids is) (decode 6 48 t))
        → ReadsReply file s slot c o' (Some n)
    read-message {o} {o'} {at} {n} k v = record {
      tells = λ w p S h.
          let z = spot k w p S h in
          let g = root-good t at (ids.last_id (ids.path_from_ids is)) z.there z.root in (
            z.there,
            z.is,
            record {
              bytes = v.holds
                  ∙ (ap (subtree_of (ids.path_from_ids is)) (decode-complete session_levels session_nodes t (tree empty S.tree) (encodes h))
                  ∙ ap alone (ap (λ (x : Path). read x S.tree) (ap ids.path_from_ids d ∙ path-is file c) ∙ z.is));
              good = g;
            },
          );
      inside = λ m e. let x : n ≡ m = cc in omega (arith, x, v.fits);
    }

pub ruleset read-laws = (read-long, read-no-path, read-no-tree, read-nothing, read-message)

-- ---- `put_answer`

pub answer-put : (v : ℕ) (m : List ℕ) {o o₁ o₂ : List ℕ} {e n : ℕ} → 4 + length m ≤ length o → o₁ ≡ put_u32 o 0 v → n ≡ length m
    → Wrote o₁ o₂ 4 e n (take n (drop 0 m)) → Wrote o o₂ 0 e e (u32_bytes v ++ m)
answer-put v m {o} {n = n} h x g w =
    wrote-all-of (ap (λ (l : List ℕ). u32_bytes v ++ l) (take_all n m (omega (arith, g))))
    (wrote-more (wrote_of 0 4 (u32_bytes v) refl (omega (arith, h)) (x ∙ put_32 o 0 v (omega (arith, h)))) w)
