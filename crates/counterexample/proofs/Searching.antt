-- The lowest of the least messages kept, at each of the ways out of the code.
use mathlib.Core.Path.{◌≡◌, refl, ap, sym, subst, ◌∙◌}
use mathlib.Core.List.{List, ◌++◌}
use mathlib.Core.Bool.{Bool, true, false, not}
use Prim.Native.Nat.{ℕ, suc, ◌+◌, ◌-◌, ◌≤◌, ◌<◌}
use native.Mathlib.Omega.{arith}
use lib.Dec.{ltb}
use lib.ListN.{length, take, drop, take-append-drop}
use borrow.Author.Tests.{lt-ltb, le-ltb, ltb-true, ltb-false, eq-eqb, ne_eqb}
use Rattle.basics.specs.TestLaws.{not-true, not-false, or-false}
use Rattle.tree_forest.specs.Limits.{message_levels_below, message_nodes_below}
use Rattle.tree_forest.specs.Forest.{end, Tree, tree, nodes, measure}
use Rattle.scalar.specs.Value.{Value, value}
use Rattle.tree.specs.Encode.{encode, rooted, children, Octets}
use Rattle.tree.specs.Standing.{Root}
use Rattle.tree.specs.EncodeLaws.{good_of, sound-above, length-node}
use Rattle.tree.specs.StandingLaws.{encodes-root}
use Rattle.tree.specs.DecodeLaws.{with_root}
use Rattle.tree_count.specs.Counted.{NodesBelow}
use Rattle.tree_edit.specs.Wrote.{Wrote}
use Rattle.tree_edit.specs.WroteLaws.{wrote-part}
use Rattle.network_syntax.specs.Syntax.{Mark, MessageType, Optional, none, some}
use Rattle.network.specs.Form.{WellFormed}
use Rattle.network.specs.Layout.{type_count}
use Rattle.network.specs.Decode.{siblings, type_of}
use Rattle.network.proofs.DecodeLaws.{type-shape}
use Rattle.network.specs.Shapes.{tree_nodes}
use Rattle.check_subtyping.specs.Own.{fits}
use Rattle.check_types.specs.TypeRows.{row_types}
use Rattle.check_types.specs.Tells.{FitsRow}
use Rattle.counterexample_rules.specs.Smallest.{IsMessage}
use Rattle.counterexample_rules.specs.Order.{is_lower_bytes, is_lower}
use Rattle.counterexample_rules.specs.Breaking.{least_message, lower_of, lowest_of}
use Rattle.counterexample_rules.specs.BreakingLaws.{least-message}
use Rattle.counterexample.specs.Answer.{shown_bytes}
use Rattle.counterexample.specs.RowLaws.{row_within}
use Rattle.counterexample.specs.Tells.{RowNodes, MessageWritten, IfMessage, is_better, BetterTold, HoldsMessage, Considered, Searched}

-- ---- which of two messages is lower

long : (m : Tree Value) → 0 < length (encode (rooted m))
long (tree (value b v) k) = omega (arith, length-node 0 b v k end)

no_bytes : (m : Tree Value) {s : List ℕ} → s ≡ encode (rooted m) → length s ≡ 0 → ⊥
no_bytes m e z = omega (arith, long m, ap length e)

stands : {s : List ℕ} (m : Tree Value) → IsMessage m → s ≡ encode (rooted m) → Root s 0 0 m
stands {s} m h e =
    encodes-root message_levels_below message_nodes_below s m (omega arith) (omega arith) (record { bytes = e; good = h.good })

nodes-told : {s : List ℕ} {x : ℕ} (m : Tree Value) → NodesBelow s x → IsMessage m → s ≡ encode (rooted m) → nodes (rooted m) ≡ suc x
nodes-told m n h e = (with_root m).0 ∙ ap suc (sym (n.tells 0 m (stands m h e)))

pub better-first : {a b : List ℕ} → length b ≡ 0 → BetterTold a b true
better-first {a} {b} z = record { tells = go }
  where
    go : (m : Tree Value) (best : Optional (Tree Value)) → IsMessage m → IfMessage best → a ≡ encode (rooted m) → b ≡ shown_bytes best → true ≡ is_better m best
    go m none h g p q = refl
    go m (some n) h g p q = absurd (no_bytes n q z)

module _ {a b : List ℕ} (z : length b ≡ 0 → ⊥) {x y : ℕ} (p : NodesBelow a x) (q : NodesBelow b y) where
  by-test : (t : Bool) → ((m n : Tree Value) → IsMessage m → IsMessage n → a ≡ encode (rooted m) → b ≡ encode (rooted n) → t ≡ is_lower m n) → BetterTold a b t
  by-test t f = record { tells = go }
    where
      go : (m : Tree Value) (best : Optional (Tree Value)) → IsMessage m → IfMessage best → a ≡ encode (rooted m) → b ≡ shown_bytes best → t ≡ is_better m best
      go m none h g e d = absurd (z (ap length d))
      go m (some n) h g e d = f m n h g e d

  pub better-unlike : (x ≡ y → ⊥) → BetterTold a b (ltb x y)
  unfolding is_lower
  better-unlike k =
      by-test (ltb x y) (λ m n h g e d.
      let u = nodes-told m p h e in
      let v = nodes-told n q g d in
      above (ltb x y) refl u v
      ∙ sym (rw (ne_eqb (nodes (rooted m)) (nodes (rooted n)) (λ w. k (omega arith))) (sym (or-false (ltb (nodes (rooted m)) (nodes (rooted n)))))))
    where
      above : {i j : ℕ} (t : Bool) → ltb x y ≡ t → i ≡ suc x → j ≡ suc y → ltb x y ≡ ltb i j
      above {i} {j} true e u v = e ∙ sym (lt-ltb i j (omega (arith, ltb-true x y e)))
      above {i} {j} false e u v = e ∙ sym (le-ltb i j (omega (arith, ltb-false x y e)))

  pub better-bytes : (t : Bool) → y ≤ x → x ≤ y → t ≡ is_lower_bytes a b → BetterTold a b t
  unfolding is_lower
  better-bytes t l k w =
      by-test t (λ m n h g e d.
      let u = nodes-told m p h e in
      let v = nodes-told n q g d in
      rw (le-ltb (nodes (rooted m)) (nodes (rooted n)) (omega arith), eq-eqb (nodes (rooted m)) (nodes (rooted n)) (omega arith), ← e, ← d) w)

-- ---- one more least message

-- The first n bytes, as the code takes them.
whole_part : (n : ℕ) (l : List ℕ) → take (n - 0) (drop 0 l) ≡ take n l
whole_part n l = let e : n - 0 ≡ n = omega arith in ap (λ (k : ℕ). take k l) e

-- The message kept, by what the tests say.
kept-fits : (u : MessageType) (m : Tree Value) (best : Optional (Tree Value)) → fits m u ≡ true → lower_of u m best ≡ best
kept-fits u m none e = rw e refl
kept-fits u m (some n) e = rw e refl

kept-best : (u : MessageType) (m : Tree Value) (best : Optional (Tree Value)) → fits m u ≡ false → is_better m best ≡ false → lower_of u m best ≡ best
kept-best u m none e f = let z : ◌≡◌ {A = ℕ} 0 1 = cc in absurd (omega arith)
kept-best u m (some n) e f = rw (e, f) refl

kept_new : (u : MessageType) (m : Tree Value) (best : Optional (Tree Value)) → fits m u ≡ false → is_better m best ≡ true → lower_of u m best ≡ some m
kept_new u m none e f = rw e refl
kept_new u m (some n) e f = rw (e, f) refl

module _ (file : List ℕ) (first second j : ℕ) (o : List ℕ) (n : ℕ) (oct : Octets file) (inside : n ≤ length o)
    (e k : List ℕ) (len : ℕ) (w : MessageWritten file first j e k len) (t : Bool) (f : FitsRow k file second t) where
  good : WellFormed file → first < type_count file → IsMessage (least_message (type_of file first) j)
  good wf le = least-message (type_of file first) (row_within file oct wf first le) j

  part : (wf : WellFormed file) (le : first < type_count file) → take len k ≡ encode (rooted (least_message (type_of file first) j))
  part wf le = wrote-part (w.writes wf le)

  root : (wf : WellFormed file) (le : first < type_count file) → Root k 0 0 (least_message (type_of file first) j)
  root wf le =
      let m = least_message (type_of file first) j in
      let g = (good wf le).good in
      record {
        after = drop len k;
        bytes = sym (take-append-drop len k) ∙ ap (λ (l : List ℕ). l ++ drop len k) (part wf le);
        proper = g.root;
        good = good_of (children m) 6 0 (sound-above (children m) g.sound) g.rising g.sound (omega (arith, g.shallow));
        small = omega (arith, g.few);
      }

  fitted : (wf : WellFormed file) → first < type_count file → (ls : second < type_count file) → t ≡ fits (least_message (type_of file first) j) (type_of file second)
  fitted wf lf ls = f.tells 0 (least_message (type_of file first) j) wf ls (root wf lf)

  pub considered-fits : t ≡ true → Considered file first second j o o n n
  considered-fits y = record {
    inside = inside;
    tells = λ wf lf ls best h.
        subst (HoldsMessage o n) (sym (kept-fits (type_of file second) (least_message (type_of file first) j) best (sym (fitted wf lf ls) ∙ y))) h;
  }

  module _ (y : t ≡ false) (x : Bool) (g : BetterTold (take (len - 0) (drop 0 k)) (take (n - 0) (drop 0 o)) x) where
    told : (wf : WellFormed file) (lf : first < type_count file) → (best : Optional (Tree Value)) → HoldsMessage o n best
        → x ≡ is_better (least_message (type_of file first) j) best
    told wf lf best h = g.tells (least_message (type_of file first) j) best (good wf lf) h.1 (whole_part len k ∙ part wf lf) (whole_part n o ∙ h.0)

    pub considered-kept : not x ≡ true → Considered file first second j o o n n
    considered-kept v = record {
      inside = inside;
      tells = λ wf lf ls best h.
          subst (HoldsMessage o n)
          (sym (kept-best (type_of file second) (least_message (type_of file first) j) best (sym (fitted wf lf ls) ∙ y) (sym (told wf lf best h) ∙ not-true x v))) h;
    }

    pub considered-new : not x ≡ false → (o' : List ℕ) (r : ℕ) → Wrote o o' 0 r len (take len (drop 0 k)) → length o' ≡ length o → Considered file first second j o o' n r
    considered-new v o' r p l = record {
      inside = omega (arith, p.fits);
      tells = λ wf lf ls best h.
          subst (HoldsMessage o' r)
          (sym (kept_new (type_of file second) (least_message (type_of file first) j) best (sym (fitted wf lf ls) ∙ y) (sym (told wf lf best h) ∙ not-false x v)))
          (wrote-part p ∙ part wf lf, good wf lf);
    }

-- ---- all of them

pub search-begins : (file : List ℕ) (first second : ℕ) (o : List ℕ) → Searched file first second 0 o 0
unfolding lowest_of
search-begins file first second o = record { inside = omega arith; tells = λ wf lf ls. (refl, tt) }

pub search-goes-on : (file : List ℕ) (first second j : ℕ) (o o' : List ℕ) (n n' : ℕ) → Searched file first second j o n → Considered file first second j o o' n n'
    → length o' ≡ length o → Searched file first second (j + 1) o' n'
unfolding lowest_of
search-goes-on file first second j o o' n n' h c l =
    let e : suc j ≡ j + 1 = omega arith in
    subst (λ (i : ℕ). Searched file first second i o' n') e
    (record {
      inside = omega (arith, c.inside);
      tells = λ wf lf ls. c.tells wf lf ls (lowest_of (type_of file first) (type_of file second) j) (h.tells wf lf ls);
    })

one-row-nodes : (file : List ℕ) (r : ℕ) (t : Tree Mark) → type_of file r ≡ t → nodes (row_types file r 1) ≡ tree_nodes t
unfolding siblings measure
one-row-nodes file r (tree a k) e = rw e (omega arith)

row-count : (file : List ℕ) (r x : ℕ) → RowNodes file r 1 x → WellFormed file → r < type_count file → x ≡ tree_nodes (type_of file r)
row-count file r x h wf le =
    let e = one-row-nodes file r (type_of file r) refl in
    let f = (type-shape file wf r le).few_nodes in
    h.tells wf (omega arith) (omega arith) ∙ e

pub search-ends : (file : List ℕ) (first second x j : ℕ) (o : List ℕ) (n : ℕ) → RowNodes file first 1 x → Searched file first second j o n → j ≤ x → x ≤ j
    → Searched file first second (tree_nodes (type_of file first)) o n
search-ends file first second x j o n h s p q = record {
  inside = s.inside;
  tells = λ wf lf ls.
      let e : j ≡ tree_nodes (type_of file first) = omega (arith, row-count file first x h wf lf) in
      subst (λ (i : ℕ). HoldsMessage o n (lowest_of (type_of file first) (type_of file second) i)) e (s.tells wf lf ls);
}
