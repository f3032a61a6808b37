-- Changed trees of sessions, at each of the ways out of the code.
use mathlib.Core.Path.{◌≡◌, refl, sym, ap, subst, ◌∙◌}
use mathlib.Core.Bool.{Bool, true, false, not, ◌&&◌}
use mathlib.Core.List.{List}
use Prim.Native.Nat.{ℕ, ◌≤◌}
use native.Mathlib.Omega.{arith}
use lib.ListN.{length, take}
use lib.Dec.{leb}
use borrow.Author.Tests.{le-leb}
use Rattle.tree_forest.specs.Forest.{Forest, end, Tree, tree, Lookup, nodes, levels}
use Rattle.tree_forest.specs.Path.{Path, replace_at, set_payload_at}
use Rattle.scalar.specs.Value.{Value}
use Rattle.basics.specs.TestLaws.{unequal, both_true, of_le}
use Rattle.tree.specs.Encode.{Encodes, empty}
use Rattle.tree_forest.specs.Limits.{message_levels_below, message_nodes_below, session_levels, session_nodes}
use Rattle.tree.specs.Decode.{is_tree}
use Rattle.tree_forest.specs.Forest.{is_present}
use Rattle.tree.specs.DecodeLaws.{decode-complete, encodes-up}
use Rattle.tree.specs.Ids.{is_path, path_from_ids}
use Rattle.tree_edit.specs.Limited as limited
use Rattle.network_rows.specs.Readers.{path_ids}
use Rattle.network_row_parts.specs.PathLaws.{ids-path, path-is}
use Rattle.state.specs.Places.{tree_room}
use Rattle.state.specs.Session.{Session}
use Rattle.state.specs.Bytes.{tree_bytes}
use Rattle.state.proofs.SizeLaws.{message-size, session-tree-size}
use Rattle.scalar.specs.Value.{void_value}
use Rattle.state_slots.specs.Slots.{tree_in}
use Rattle.state_slots.specs.SlotLaws.{living-tree}
use Rattle.state_slots.specs.Living.{Living}
use Rattle.state_trees.specs.Changing.{ChangedTo, kept_bytes, Replaces, ReplacesAt, SetsLeaf, change_of, KeptAs}
use Rattle.std.specs.Prelude.{Option, Some, None}
use Rattle.std.specs.Prelude.{Result, Ok, Err}

-- ---- what is tested before a change

abbrev changeable : List ℕ → List ℕ → List ℕ → ℕ → ℕ → Bool
changeable s ids m deep many = leb (length s) 1024 && (leb (length m) 1024 && (is_path ids && (is_tree 6 48 s && is_tree deep many m)))

-- ---- what is known of the tree in the slot

session-encodes : {s t : List ℕ} {slot : ℕ} {S : Session} → t ≡ tree_in s slot → Living s slot S → Encodes session_levels session_nodes t (tree empty S.tree)
session-encodes e h = record { bytes = e ∙ living-tree h; good = h.made.bounded }

session-short : {s t : List ℕ} {slot : ℕ} {S : Session} → t ≡ tree_in s slot → Living s slot S → length t ≤ 1013
session-short {S = S} e h = omega (arith, ap length (e ∙ living-tree h), session-tree-size S.tree h.made.bounded)

message-short : (m : List ℕ) (t : Tree Value) → Encodes message_levels_below message_nodes_below m t → length m ≤ 336
message-short m t h = omega (arith, ap length h.bytes, message-size t h.good)

is-tree : (deep many : ℕ) (s : List ℕ) (t : Tree Value) → Encodes deep many s t → is_tree deep many s ≡ true
is-tree deep many s t e = ap (λ (l : Lookup Value). is_present l) (decode-complete deep many s t e)

message-tree : (m : List ℕ) (t : Tree Value) → Encodes message_levels_below message_nodes_below m t → Encodes session_levels session_nodes m t
message-tree m t e = encodes-up message_levels_below message_nodes_below session_levels session_nodes m t (omega arith) (omega arith) e

leaf-message : (m : List ℕ) (t : Tree Value) → Encodes 0 0 m t → Encodes message_levels_below message_nodes_below m t
leaf-message m t e = encodes-up 0 0 message_levels_below message_nodes_below m t (omega arith) (omega arith) e

-- ---- the changed tree

swapped : (a b : Bool) → (a && b) ≡ false → (b && a) ≡ false
swapped true true e = e
swapped true false e = refl
swapped false true e = refl
swapped false false e = refl

changed : (o o' : List ℕ) (v : Result ℕ ℕ) (x : Option ℕ) (F : Forest Value) → KeptAs v x → limited.Outcome o o' v (tree empty F) → ChangedTo o' x F
changed o o' v x F k h = by v x k.tells h
  where
    by : (v : Result ℕ ℕ) (x : Option ℕ) → change_of v x → limited.Outcome o o' v (tree empty F) → ChangedTo o' x F
    by (Ok r) (Some n) e h =
        let w = h.encodes.good in
        let z : r ≡ length (tree_bytes F) = sym h.wrote.size in
        let l = session-tree-size F w in
        record {
          bytes = ap (λ (j : ℕ). take j o') e.0 ∙ h.encodes.bytes;
          size = e.0 ∙ z;
          small = omega (arith, e.0, z, l);
          room = omega (arith, e.0, h.wrote.fits);
          made = w;
          fits = ap (λ (b : Bool). b && leb (levels F) 6) (le-leb (nodes F) 48 w.few) ∙ le-leb (levels F) 6 w.shallow;
        }
    by (Ok r) None e h =
        let z : r ≡ length (tree_bytes F) = sym h.wrote.size in
        absurd (omega (arith, e, z, session-tree-size F h.encodes.good))
    by (Err r) (Some n) e h = absurd e
    by (Err r) None e h = swapped (leb (levels F) session_levels) (leb (nodes F) session_nodes) h.large

-- There is room for it.
kept_small : (v : Result ℕ ℕ) (x : Option ℕ) → change_of v x → kept_bytes x ≤ tree_room
kept_small (Ok r) (Some n) e = omega (arith, e.0, e.1)
kept_small (Ok r) None e = omega arith
kept_small (Err r) (Some n) e = absurd e
kept_small (Err r) None e = omega arith

-- ---- `replace`

module _ (s : List ℕ) (slot : ℕ) (ids m : List ℕ) {t : List ℕ} (e : t ≡ tree_in s slot) where
  pub replace-refused : {o : List ℕ} {b : Bool} → b ≡ changeable t ids m 6 48 → not b ≡ true → Replaces s slot ids m o None
  replace-refused k n = record {
    tells = λ S u h p c.
        let l = session-short e h in
        let v = message-short m u c in
        unequal
        (k ∙ both_true (of_le (length t) 1024 (omega arith)) (both_true (of_le (length m) 1024 (omega arith))
        (both_true p (both_true (is-tree session_levels session_nodes t _ (session-encodes e h)) (is-tree session_levels session_nodes m u (message-tree m u c)))))) n;
    small = omega arith;
  }

  pub replace-done : {o o' : List ℕ} {v : Result ℕ ℕ} {x : Option ℕ} → limited.PutOutcome false ids t m o o' v → KeptAs v x → Replaces s slot ids m o' x
  replace-done {o} {o'} {v} {x} w k = record {
    tells = λ S u h p c.
        changed o o' v x (replace_at void_value (path_from_ids ids) u S.tree) k
        (w.tells empty S.tree u (decode-complete session_levels session_nodes t _ (session-encodes e h)) (decode-complete session_levels session_nodes m u (message-tree m u c)));
    small = kept_small v x k.tells;
  }

  -- ---- `assign`

  pub assign-refused : {o : List ℕ} {b : Bool} → b ≡ changeable t ids m 0 0 → not b ≡ true → SetsLeaf s slot ids m o None
  assign-refused k n = record {
    tells = λ S u h p c.
        let l = session-short e h in
        let v = message-short m (tree u end) (leaf-message m (tree u end) c) in
        unequal
        (k ∙ both_true (of_le (length t) 1024 (omega arith)) (both_true (of_le (length m) 1024 (omega arith))
        (both_true p (both_true (is-tree session_levels session_nodes t _ (session-encodes e h)) (is-tree 0 0 m (tree u end) c))))) n;
  }

  pub assign-done : {o o' : List ℕ} {v : Result ℕ ℕ} {x : Option ℕ} → limited.SetOutcome ids t m o o' v → KeptAs v x → SetsLeaf s slot ids m o' x
  assign-done {o} {o'} {v} {x} w k = record {
    tells = λ S u h p c.
        changed o o' v x (set_payload_at void_value (path_from_ids ids) u S.tree) k
        (w.tells empty S.tree u (decode-complete session_levels session_nodes t _ (session-encodes e h)) (decode-complete 0 0 m (tree u end) c));
  }

-- ---- `replace_at`

pub replaced-at : {file : List ℕ} {p : ℕ} {s is m o : List ℕ} {slot : ℕ} {x : Option ℕ} → is ≡ path_ids file p → Replaces s slot is m o x
    → ReplacesAt file p s slot m o x
replaced-at {file} {p} {o = o} {x = x} d h = record {
  tells = λ w l S t i g.
      subst (λ (y : Path). ChangedTo o x (replace_at void_value y t S.tree)) (ap path_from_ids d ∙ path-is file p)
      (h.tells S t i (ap is_path d ∙ ids-path file w p l) g);
  small = h.small;
}
