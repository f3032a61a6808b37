-- The key of a message and the sessions that hold keys, at each of the ways out of the code.
use mathlib.Core.Path.{◌≡◌, refl, sym, ap, subst, ◌∙◌}
use mathlib.Core.Bool.{Bool, true, false, not, ◌&&◌}
use mathlib.Core.List.{List}
use mathlib.Core.Logic.{inr}
use Prim.Native.Nat.{ℕ, ◌+◌, ◌≤◌, ◌<◌}
use native.Mathlib.Omega.{arith}
use native.Mathlib.Decide.{dec_lt}
use mir.Syntax.{w32}
use lib.Dec.{eqb}
use lib.ListN.{length}
use borrow.Author.Tests.{eq-eqb, ne_eqb}
use Rattle.basics.specs.Choice.{pick}
use Rattle.wire.specs.Wire.{u32_at, part, unsigned_of}
use Rattle.scalar.specs.Basic.{int}
use Rattle.scalar.specs.Value.{Value, value}
use Rattle.scalar.specs.ValueLaws.{integer-bytes, number-32}
use Rattle.tree_forest.specs.Forest.{Tree, tree, present, find}
use Rattle.tree_forest.specs.Limits.{message_levels_below, message_nodes_below}
use Rattle.tree.specs.declared.Head.{Head}
use Rattle.tree.specs.Encode.{Message}
use Rattle.tree.specs.Decode.{head_at, len_at}
use Rattle.tree.specs.EncodeLaws.{got, sized}
use Rattle.tree.specs.Standing.{Root, Spot, Below}
use Rattle.tree.specs.StandingLaws.{root-fields, root-seen, root-unseen, encodes-root}
use Rattle.network_syntax.specs.Syntax.{Optional, none, some, Operation}
use Rattle.network_syntax.specs.Rows.{Input, input_of}
use Rattle.network_syntax.specs.Keys.{key_id, is_keyed}
use Rattle.network.specs.Form.{WellFormed}
use Rattle.network.specs.Layout.{service_count}
use Rattle.network.specs.Rows.{service_key}
use Rattle.network.specs.Decode.{behaviour_of, network_of}
use Rattle.network.proofs.RowLaws.{counts-kept}
use Rattle.network.proofs.NetworkLaws.{service-key}
use Rattle.state.specs.Bytes.{read_state}
use Rattle.move_rules.specs.Targets as definition
use Rattle.move_rules.specs.Keys.{int_of, key_of, key_or_zero, key_to_keep, live_with, finds_by_key, finds_by, finds_session}
use Rattle.move_targets.specs.declared.Target.{Target}
use Rattle.move_targets.specs.Answers.{start_with, target_as}
use Rattle.move_targets.specs.SessionLaws.{target-far}
use Rattle.move_keys.specs.Finding.{key_found, IntAt, MessageKey, HoldsKey, IsHeld, IsTarget, GoesTo, Finds}
use Rattle.std.specs.Prelude.{Option, Some, None}
use Rattle.tree.specs.Decode.{header}

-- ---- the key of a message

pub int-fault : (l : List ℕ) (at : ℕ) {h : Option Head} → h ≡ head_at l at → h ≡ None → IntAt l at None
int-fault l at p q = record { tells = λ i t w. root-unseen l at i t w _ p q }

module _ (l : List ℕ) (at : ℕ) {h : Option Head} {i b c m : ℕ} (p : h ≡ head_at l at) (q : h ≡ Some (header i b c m)) where
  pub int-start : at + 5 ≤ length l
  int-start = (sized l at (got p q).ok).header

  pub int-other : (b ≡ int → ⊥) → IntAt l at None
  int-other e = record { tells = go }
    where
      go : (j : ℕ) (t : Tree Value) → Root l at j t → none ≡ int_of (present t)
      go j (tree (value d v) ks) w = rw (ne_eqb d int (λ f. e ((root-seen l at j d v ks w h i b c m p q).basic ∙ f)))

  pub int-there : {x : ℕ} → b ≡ int → x ≡ u32_at l (at + 5) → IntAt l at (Some x)
  int-there {x} e f = record { tells = go }
    where
      go : (j : ℕ) (t : Tree Value) → Root l at j t → some x ≡ int_of (present t)
      go j (tree (value d v) ks) w =
          let u = root-fields l at j d v ks w in
          let z : d ≡ int = sym (root-seen l at j d v ks w h i b c m p q).basic ∙ e in
          let k : length v ≡ 4 = integer-bytes d w32 v (rw z refl) w.proper.valid in
          let n : len_at l at ≡ 4 = omega (arith, u.next, k) in
          let y : unsigned_of v ≡ x =
          ap unsigned_of (sym u.value) ∙ (ap (λ (r : ℕ). unsigned_of (part l (at + 5) r)) n ∙ (number-32 l (at + 5) (omega (arith, u.size, k)) ∙ sym f)) in
          rw (eq-eqb d int z, y)

module _ (l : List ℕ) (k : ℕ) {f : Option ℕ} (h : Below l 0 k f) where
  child : {g : Option ℕ} → f ≡ g → (v : Value) → (ks : _) → Message l (tree v ks) → Spot l k g (find k ks)
  child e v ks w =
      subst (λ (g : Option ℕ). Spot l k g (find k ks)) e
      (h.tells 0 (tree v ks) (encodes-root message_levels_below message_nodes_below l (tree v ks) (omega arith) (omega arith) w))

  pub key-none : f ≡ None → MessageKey l k None
  key-none e = record { tells = go }
    where
      go : (m : Tree Value) → Message l m → none ≡ key_of k m
      go (tree v ks) w = sym (ap int_of (child e v ks w))

  pub key-there : {at : ℕ} {x : Option ℕ} → f ≡ Some at → IntAt l at x → MessageKey l k x
  key-there {x = x} e i = record { tells = go }
    where
      go : (m : Tree Value) → Message l m → key_found x ≡ key_of k m
      go (tree v ks) w = let u = child e v ks w in i.tells k u.there u.root ∙ ap int_of (sym u.is)

-- ---- by the target

module _ {s : List ℕ} {q n x : ℕ} {t : Target} where
  pub goes_none : t ≡ Target.NoTarget → GoesTo s q n t x false
  unfolding target_as
  goes_none e = record { tells = λ file i j h. absurd (h (ap (target_as file) e)) }

  pub goes-full : t ≡ Target.QueueFull → GoesTo s q n t x false
  unfolding target_as
  goes-full e = record { tells = λ file i j h. sym (ap (λ (u : Target). finds_by_key (read_state s q) n (target_as file u) x) e) }

  pub goes-client : t ≡ Target.Queued → n ≡ 0 → GoesTo s q n t x false
  unfolding target_as
  goes-client e z = record {
    tells = λ file i j h.
        sym (ap (λ (u : Target). finds_by_key (read_state s q) n (target_as file u) x) e
        ∙ ap (λ (y : Bool). not y && live_with x (read_state s q n)) (eq-eqb n 0 z));
  }

  pub goes-queued : {a : Bool} → t ≡ Target.Queued → (n ≡ 0 → ⊥) → HoldsKey s q n x a → GoesTo s q n t x a
  unfolding target_as
  goes-queued {a} e z g = record {
    tells = λ file i j h.
        g.tells i j ∙ sym (ap (λ (u : Target). finds_by_key (read_state s q) n (target_as file u) x) e
        ∙ ap (λ (y : Bool). not y && live_with x (read_state s q n)) (ne_eqb n 0 z));
  }

  pub goes-starts : {c k r : ℕ} {a : Bool} → t ≡ Target.Starts c k r → IsHeld s q x a → GoesTo s q n t x (not a)
  unfolding target_as
  goes-starts {c} {k} {r} {a} e g = record {
    tells = λ file i j h.
        by (input_of (behaviour_of file r)) i (λ z. h (ap (target_as file) e ∙ z)) ∙ sym (ap (λ (u : Target). finds_by_key (read_state s q) n (target_as file u) x) e);
  }
    where
      by : (z : Optional Input) → q < 4 → IsTarget (start_with c k z) → not a ≡ finds_by_key (read_state s q) n (start_with c k z) x
      by none i h = absurd (h refl)
      by (some z) i h = ap not (g.tells i)

-- ---- the whole

module _ (file s l : List ℕ) (q n k : ℕ) (t : Target) (e : k ≡ service_key file q) where
  -- What is asked, by the key id k and the target t.
  asked : q < service_count file → (o : Operation) → o.service ≡ q → target_as file t ≡ definition.target (network_of file) (read_state s) o n → (m : Tree Value)
      → finds_session (network_of file) (read_state s) o n m ≡ pick (not (eqb k 0)) (finds_by (read_state s q) n (target_as file t) (key_of k m)) true
  asked i o u te m =
      let N = network_of file in
      let G = read_state s in
      ap (λ (T : definition.Target). pick (is_keyed N o.service) (finds_by (G o.service) n T (key_of (key_id N o.service) m)) true) (sym te)
      ∙ (ap (λ (j : ℕ). pick (is_keyed N j) (finds_by (G j) n (target_as file t) (key_of (key_id N j) m)) true) u
      ∙ ap (λ (j : ℕ). pick (not (eqb j 0)) (finds_by (G q) n (target_as file t) (key_of j m)) true) (service-key file q i ∙ sym e))

  kept : q < service_count file → (o : Operation) → o.service ≡ q → (m : Tree Value)
      → key_to_keep (network_of file) o m ≡ pick (not (eqb k 0)) (key_or_zero (key_of k m)) 0
  kept i o u m =
      ap (λ (j : ℕ). pick (is_keyed (network_of file) j) (key_or_zero (key_of (key_id (network_of file) j) m)) 0) u
      ∙ ap (λ (j : ℕ). pick (not (eqb j 0)) (key_or_zero (key_of j m)) 0) (service-key file q i ∙ sym e)

  pub find-unkeyed : k ≡ 0 → Finds file s q n t l (Some 0)
  find-unkeyed z = record {
    tells = λ w i o u te h m g. (asked i o u te m ∙ unkeyed z _ true, sym (kept i o u m ∙ unkeyed z _ 0));
  }
    where
      unkeyed : {A : Type 0} → k ≡ 0 → (a b : A) → pick (not (eqb k 0)) a b ≡ b
      unkeyed z a b = rw (eq-eqb k 0 z)

  module _ {x : Option ℕ} (z : k ≡ 0 → ⊥) (h : MessageKey l k x) where
    keyed : {A : Type 0} (a b : A) → pick (not (eqb k 0)) a b ≡ a
    keyed a b = rw (ne_eqb k 0 z)

    pub find_none : x ≡ None → Finds file s q n t l None
    find_none f = record {
      tells = λ w i o u te c m g.
          asked i o u te m ∙ (keyed _ true ∙ ap (finds_by (read_state s q) n (target_as file t)) (sym (h.tells m g) ∙ ap key_found f));
    }

    module _ {y : ℕ} {b : Bool} (f : x ≡ Some y) (d : GoesTo s q n t y b) where
      found-is : WellFormed file → q < service_count file → (o : Operation) → o.service ≡ q
          → target_as file t ≡ definition.target (network_of file) (read_state s) o n → IsTarget (target_as file t) → (m : Tree Value) → Message l m
          → finds_session (network_of file) (read_state s) o n m ≡ b
      found-is w i o u te c m g =
          asked i o u te m
          ∙ (keyed _ true
          ∙ (ap (finds_by (read_state s q) n (target_as file t)) (sym (h.tells m g) ∙ ap key_found f)
          ∙ sym (d.tells file (omega (arith, i, (counts-kept file w).services)) (near (dec_lt n 4)) c)))
        where
          near : Dec (n < 4) → n < 4
          near (yes j) = j
          near (no j) = absurd (c (te ∙ target-far file (read_state s) o n w (inr (omega arith))))

      pub find-goes : b ≡ true → Finds file s q n t l (Some y)
      find-goes v = record {
        tells = λ w i o u te c m g. (
          found-is w i o u te c m g ∙ v,
          sym (kept i o u m ∙ (keyed _ 0 ∙ ap key_or_zero (sym (h.tells m g) ∙ ap key_found f))),
        );
      }

      pub find-another : b ≡ false → Finds file s q n t l None
      find-another v = record { tells = λ w i o u te c m g. found-is w i o u te c m g ∙ v }
