-- Laws of writing a value out; one for each way out of the functions.
use Prim.Native.Nat.{ℕ, suc, ◌+◌, ◌-◌, ◌<◌, ◌≤◌}
use mathlib.Core.Path.{◌≡◌, refl, sym, ◌∙◌, ap, subst}
use mathlib.Core.List.{List, [], ◌∷◌}
use native.Mathlib.Omega.{arith}
use lib.ListN.{length, take, drop, length-append}
use lib.Seq.{take-append_seam, drop-drop}
use Rattle.basics.specs.ListLaws.{take-later}
use Rattle.wire.specs.Wire.{with_part}
use Rattle.tree_forest.specs.Forest.{Forest, end, node, Tree, tree}
use Rattle.scalar.specs.Value.{Value, value, basic_of, bytes_of, SoundValue}
use Rattle.scalar.specs.Scalar.{value_of}
use Rattle.scalar.specs.declared.Operand.{Operand}
use Rattle.tree.specs.Encode.{encode, rooted, empty, Octets, Encodes}
use Rattle.tree_forest.specs.Limits.{session_levels, session_nodes}
use Rattle.tree.specs.EncodeLaws.{length-node}
use Rattle.tree.specs.Standing.{Root, Ended}
use Rattle.tree.specs.StandingLaws.{root-inside, root-part, root-good}
use Rattle.tree_edit.specs.Wrote.{Wrote}
use Rattle.tree_edit.specs.WroteLaws.{wrote-more, wrote-all-of}
use Rattle.state.proofs.SizeLaws.{session-tree-size}
use Rattle.move_rules.specs.Evaluation.{Evaluation, leaf}
use Rattle.move_evaluation.specs.declared.Place.{Place}
use Rattle.move_evaluation.specs.declared.Fault.{Fault}
use Rattle.move_evaluation.specs.declared.Evaluated.{Evaluated}
use Rattle.move_evaluation.specs.Evaluated.{SourceOf, StandsFor}
use Rattle.move_evaluation.specs.Writing.{WritesLeaf, WritesTree, WrittenAs, Writes}
use Rattle.move_evaluation.specs.WritingLaws.{leaf-good}
use Rattle.std.specs.Prelude.{Ok, Err}
use Rattle.std.specs.Prelude as std

-- ---- a value alone

module _ (v : Operand) (b b' : List ℕ) (n : ℕ) (e : n ≡ length (bytes_of (value_of v))) (f : b' ≡ with_part b 0 (bytes_of (value_of v))) where
  pub written-inside : n ≤ length b'
  written-inside =
      omega (arith, e, ap length f, length-append (bytes_of (value_of v)) (drop (0 + length (bytes_of (value_of v))) b))

  pub written-bytes : take n b' ≡ bytes_of (value_of v)
  written-bytes = rw (f, e) (take-append_seam (bytes_of (value_of v)) (drop (0 + length (bytes_of (value_of v))) b))

  pub written-length : length (take n b') ≡ n
  written-length = ap length written-bytes ∙ sym e

  pub leaf-written : {k r : ℕ} {o o' : List ℕ} → SoundValue k (value_of v) → Octets (take n b')
      → Wrote o o' 0 r (5 + length (take n b')) (encode (rooted (tree (value k (take n b')) end))) → WritesLeaf v o o' r
  leaf-written {k} h c w = record {
    wrote = wrote-all-of (ap (λ (z : Value). encode (rooted (leaf z))) (same (value_of v) h.basic written-bytes)) w;
    proper = record { valid = rw h.basic h.rule; bytes = subst Octets written-bytes c };
  }
    where
      same : (x : Value) → basic_of x ≡ k → take n b' ≡ bytes_of x → value k (take n b') ≡ x
      same (value d u) p q = rw (p, q) refl

-- ---- the tree at a place

module _ (s : List ℕ) (at e : ℕ) (h : Ended s at e) (o : List ℕ) where
  record Sizes : Type 0 where
    pub header : at + 5 ≤ e
    pub inside : e ≤ length s

  sizes : (i : ℕ) (t : Tree Value) → Root s at i t → Sizes
  sizes i (tree (value b v) ks) w =
      let z = h.ends i (tree (value b v) ks) w in
      let u = root-inside s at i (tree (value b v) ks) w in
      record { header = omega (arith, z, length-node i b v ks end); inside = omega (arith, z, u) }

  none-there : ((i : ℕ) (t : Tree Value) → Root s at i t → length s ≤ length o → ⊥) → WritesTree s at o o 0
  none-there k = record { inside = omega arith; rest = refl; tells = λ i t w l. absurd (k i t w l) }

  pub tree-past : length s < e → WritesTree s at o o 0
  tree-past p = none-there (λ i t w l. let z = sizes i t w in omega (arith, z.inside))

  pub tree-before : e < at → WritesTree s at o o 0
  tree-before p = none-there (λ i t w l. let z = sizes i t w in omega (arith, z.header))

  pub tree-short : e - at < 2 → WritesTree s at o o 0
  tree-short p = none-there (λ i t w l. let z = sizes i t w in omega (arith, z.header))

  pub tree-long : length o < e - at → WritesTree s at o o 0
  tree-long p = none-there (λ i t w l. let z = sizes i t w in omega (arith, z.inside))

  whole : (i : ℕ) (t : Tree Value) → Root s at i t → (n : ℕ) → n ≡ e - at - 2 → 0 ∷ 0 ∷ take n (drop (at + 2) s) ≡ encode (rooted t)
  unfolding encode
  whole i (tree (value b v) ks) w n q =
      let z = sizes i (tree (value b v) ks) w in
      let m : suc (suc n) ≡ e - at = omega (arith, z.header) in
      let p : take (suc (suc n)) (drop at s) ≡ encode (node i (value b v) ks end) =
      ap (λ (x : ℕ). take x (drop at s)) m ∙ root-part s at e i (tree (value b v) ks) w (h.ends i (tree (value b v) ks) w) in
      ap (λ (x : List ℕ). 0 ∷ 0 ∷ x) (ap (take n) (sym (drop-drop 2 at s)) ∙ take-later n (drop at s) ∙ ap (drop 2) p)

  pub tree-written : {o₁ o₂ : List ℕ} {a r n : ℕ} → 2 ≤ e - at → e - at ≤ length o → n ≡ e - at - 2 → Wrote o o₁ 0 a 2 (0 ∷ 0 ∷ [])
      → Wrote o₁ o₂ a r n (take n (drop (at + 2) s)) → WritesTree s at o o₂ r
  tree-written {n = n} p q k x y = record {
    inside = omega (arith, x.next, y.next);
    rest = (wrote-more x y).keeps;
    tells = λ i t w l. wrote-all-of (whole i t w n k) (wrote-more x y);
  }

-- ---- what evaluation gave

session-small : (s : List ℕ) (F : Forest Value) → Encodes session_levels session_nodes s (tree empty F) → length s ≤ 1024
session-small s F m = omega (arith, ap length m.bytes, session-tree-size F m.good)

stood : (s : List ℕ) (x : Evaluated) {k : std.Result Place Fault} → x.source ≡ k → (f : Evaluation (Tree Value)) → StandsFor s x f → SourceOf s k x.root f
stood s x e f h = subst (λ (k : std.Result Place Fault). SourceOf s k x.root f) e h

module _ (s : List ℕ) (x : Evaluated) {o : List ℕ} (l : 1024 ≤ length o) where
  pub source-at : {at r : ℕ} {o' : List ℕ} → x.source ≡ Ok (Place.At at) → WritesTree s at o o' r → Writes s x o o' (Ok r)
  source-at {at} {r} {o'} e w = record {
    inside = w.inside;
    rest = w.rest;
    tells = λ F f m h. let u = stood s x e f h in (
      u.there,
      u.is,
      record {
        bytes = (w.tells u.id u.there u.root (omega (arith, session-small s F m))).holds;
        good = root-good s at u.id u.there u.root;
      },
    );
  }

  pub source-alone : {r : ℕ} {o' : List ℕ} → x.source ≡ Ok Place.Alone → WritesLeaf x.root o o' r → length o' ≡ length o
      → Writes s x o o' (Ok r)
  source-alone {r} {o'} e w k = record {
    inside = omega (arith, w.wrote.fits);
    rest = w.wrote.keeps;
    tells = λ F f m h.
        (leaf (value_of x.root), stood s x e f h, record { bytes = w.wrote.holds; good = leaf-good session_levels session_nodes (value_of x.root) w.proper });
  }

  pub source-fault : {k : Fault} → x.source ≡ Err k → Writes s x o o (Err k)
  source-fault {k} e = record { inside = omega arith; rest = refl; tells = λ F f m h. by k f (stood s x e f h) }
    where
      by : (k : Fault) (f : Evaluation (Tree Value)) → SourceOf s (Err k) x.root f → WrittenAs o (Err k) f
      by Fault.Missing f h = h
      by Fault.Wrong f h = h
      by Fault.Outside f h = (basic_of (value_of x.root), h)

pub ruleset tree_laws = (tree-past, tree-before, tree-short, tree-long, tree-written)

pub ruleset source-laws = (source-at, source-alone, source-fault)
