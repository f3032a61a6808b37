-- What `node_count` and `level_count` find, one law for each way out.
use mathlib.Core.Path.{◌≡◌, refl, ap, sym, subst, ◌∙◌}
use mathlib.Core.List.{List, ◌++◌}
use mathlib.Core.Bool.{Bool, true, false}
use Prim.Native.Nat.{ℕ, ◌+◌, ◌-◌, ◌≤◌, ◌<◌}
use native.Mathlib.Omega.{arith}
use native.Mathlib.Decide.{dec_lt}
use lib.ListN.{length, drop}
use Rattle.tree_forest.specs.Forest.{Forest, end, node, Tree, tree, nodes, levels}
use Rattle.scalar.specs.Value.{Value, value}
use Rattle.tree.specs.Encode.{children, encode, Octets}
use Rattle.tree_forest.specs.Limits.{session_levels, session_nodes}
use Rattle.tree.specs.Decode.{id_at, basic_at, value_at, head_at, scan}
use Rattle.tree.specs.Standing.{Root}
use Rattle.tree.specs.EncodeLaws.{sized, got, node-bytes, proper-at, parse-complete, parse-sound, scanned}
use Rattle.tree.specs.EncodeLaws.{good_of, good-up, of-good, sound-above, unique}
use Rattle.tree.specs.StandingLaws.{no-fault, no-bad, root-fields, root-seen, root-unseen, root-scan}
use Rattle.tree.specs.declared.Head.{Head}
use Rattle.tree_count.specs.Counted.{NodesBelow, LevelsBelow}
use Rattle.std.specs.Prelude.{Option, Some, None}
use Rattle.std.specs.Option.{is_some}

-- a tree stands where a header was read and siblings were scanned
module _ (s : List ℕ) (h : Option Head) (p : h ≡ head_at s 0) (n : Head) (q : h ≡ Some n) where
  stands : (d e l : ℕ) → Octets s → d ≤ session_levels → scan s d n.count 0 session_nodes n.start ≡ Some (e, l) → (t : Tree Value) × Root s 0 (id_at s 0) t
  unfolding encode
  stands d e l bs dl z =
      let g = got p q in
      let k = scanned s d n.count 0 session_nodes n.start e l z in
      let st = parse-sound s bs d n.count 0 session_nodes n.start k.0 e l k.1 in
      let hd = sized s 0 g.ok in
      let by = subst (λ (a : ℕ). drop a s ≡ encode k.0 ++ drop e s) g.next st.bytes in (
        tree (value (basic_at s 0) (value_at s 0)) k.0,
        record {
          after = drop e s;
          bytes = node-bytes s 0 e e k.0 end bs hd (st.many ∙ g.count) by refl;
          proper = proper-at s 0 bs hd;
          good = good-up k.0 d session_levels 0 dl st.good;
          small = omega (arith, st.used);
        },
      )

  -- a limit of levels that is passed is kept to
  shallow : (d e l x w : ℕ) (v : List ℕ) (ks : Forest Value) → Octets s → scan s d n.count 0 session_nodes n.start ≡ Some (e, l) →
      Root s 0 x (tree (value w v) ks) → levels ks ≤ d
  shallow d e l x w v ks bs z r =
      let u = root-seen s 0 x w v ks r h n.id n.basic n.count n.start p q in
      let k = scanned s d n.count 0 session_nodes n.start e l z in
      let st = parse-sound s bs d n.count 0 session_nodes n.start k.0 e l k.1 in
      let by = subst (λ (a : ℕ). drop a s ≡ encode k.0 ++ drop e s) u.next st.bytes in
      let same = unique s (5 + length v) session_levels d 0 0 ks k.0 r.after (drop e s) (root-fields s 0 x w v ks r).after by r.good st.good
      (sym (st.many ∙ u.count)) in
      rw same (of-good k.0 d 0 st.good).shallow

  -- a limit of levels that is kept to is passed
  passes : (d x w : ℕ) (v : List ℕ) (ks : Forest Value) → Root s 0 x (tree (value w v) ks) → levels ks ≤ d →
      scan s d n.count 0 session_nodes n.start ≡ Some ((5 + length v + length (encode ks)), (session_nodes - nodes ks))
  unfolding scan
  passes d x w v ks r l =
      let u = root-seen s 0 x w v ks r h n.id n.basic n.count n.start p q in
      let o = of-good ks session_levels 0 r.good in
      let g = good_of ks d 0 (sound-above ks o.sound) o.rising o.sound l in
      let k = parse-complete ks s d 0 session_nodes (5 + length v) r.after (root-fields s 0 x w v ks r).after g r.small in
      rw (u.count, u.next, k) refl

-- nodes
module _ (s : List ℕ) (h : Option Head) (p : h ≡ head_at s 0) where
  pub nodes-fault : h ≡ None → NodesBelow s 0
  nodes-fault q = record { tells = λ i t w. root-unseen s 0 i t w h p q; none = λ f. refl }

  module _ (n : Head) (q : h ≡ Some n) (y : Option (ℕ × ℕ)) (u : y ≡ scan s 6 n.count 0 48 n.start) where
    pub nodes-bad : y ≡ None → NodesBelow s 0
    nodes-bad v = record { tells = go; none = λ f. refl }
      where
        go : (x : ℕ) (t : Tree Value) → Root s 0 x t → 0 ≡ nodes (children t)
        go x (tree (value d w) ks) r = no-bad (sym (root-scan s 0 x d w ks r h n.id n.basic n.count n.start p q) ∙ sym u ∙ v)

    pub nodes-past : (e l : ℕ) → Octets s → y ≡ Some (e, l) → NodesBelow s (48 - l)
    nodes-past e l bs v =
        let w = stands s h p n q 6 e l bs (omega arith) (sym u ∙ v) in
        record { tells = go; none = λ f. absurd (f (id_at s 0) w.0 w.1) }
      where
        go : (x : ℕ) (t : Tree Value) → Root s 0 x t → 48 - l ≡ nodes (children t)
        go x (tree (value d w) ks) r =
            let k = sym (root-scan s 0 x d w ks r h n.id n.basic n.count n.start p q) ∙ sym u ∙ v in
            let pair : ◌≡◌ {A = ℕ × ℕ} ((0 + length (encode (node x (value d w) ks end))), (48 - nodes ks)) (e, l) = cc in
            let a : 48 - nodes ks ≡ l = ap (λ (z : ℕ × ℕ). z.1) pair in
            omega (arith, a, r.small)

-- a scan leaves no more nodes than were allowed
pub nodes-left : (s : List ℕ) (c m : ℕ) (y : Option (ℕ × ℕ)) (e l : ℕ) → Octets s → y ≡ scan s 6 c 0 48 m → y ≡ Some (e, l) → l ≤ 48
nodes-left s c m y e l bs u v =
    let k = scanned s 6 c 0 48 m e l (sym u ∙ v) in
    omega (arith, (parse-sound s bs 6 c 0 48 m k.0 e l k.1).used)

pub ruleset nodes-laws = (nodes-fault, nodes-bad, nodes-past)

-- levels: the limit before d, if there is one, is not passed
pub record Missed (s : List ℕ) (c m d : ℕ) : Type 0 where
  pub before : (e : ℕ) → e + 1 ≡ d → scan s e c 0 48 m ≡ None

pub missed-none : (s : List ℕ) (c m : ℕ) → Missed s c m 0
missed-none s c m = record { before = λ e z. absurd (omega arith) }

pub missed-next : (s : List ℕ) (c m d : ℕ) (y : Option (ℕ × ℕ)) (b : Bool) → y ≡ scan s d c 0 48 m → b ≡ is_some y → b ≡ false → Missed s c m (d + 1)
missed-next s c m d (Some z) b u w v = no-fault w v
missed-next s c m d None b u w v = record {
  before = λ e z. let a : e ≡ d = omega arith in subst (λ (n : ℕ). scan s n c 0 48 m ≡ None) (sym a) (sym u);
}

module _ (s : List ℕ) (h : Option Head) (p : h ≡ head_at s 0) where
  pub levels-fault : h ≡ None → LevelsBelow s 0
  levels-fault q = record { tells = λ i t w. root-unseen s 0 i t w h p q; none = λ f. refl }

  module _ (n : Head) (q : h ≡ Some n) (d : ℕ) (f : Missed s n.count n.start d) where
    pub levels-bad : 6 < d → d ≤ 7 → LevelsBelow s 0
    levels-bad l k = record { tells = go; none = λ f. refl }
      where
        go : (x : ℕ) (t : Tree Value) → Root s 0 x t → 0 ≡ levels (children t)
        go x (tree (value o w) ks) r = no-bad (sym (root-scan s 0 x o w ks r h n.id n.basic n.count n.start p q) ∙ f.before 6 (omega arith))

    levels-kept : (e l : ℕ) → d ≤ 6 → Octets s → scan s d n.count 0 48 n.start ≡ Some (e, l) → LevelsBelow s d
    levels-kept e l dl bs u =
        let w = stands s h p n q d e l bs dl u in
        record { tells = go; none = λ f. absurd (f (id_at s 0) w.0 w.1) }
      where
        least : (x o : ℕ) (w : List ℕ) (ks : Forest Value) → Root s 0 x (tree (value o w) ks) → levels ks < d → d ≡ levels ks
        least x o w ks r t = no-bad (sym (passes s h p n q (d - 1) x o w ks r (omega arith)) ∙ f.before (d - 1) (omega arith))

        by : (x o : ℕ) (w : List ℕ) (ks : Forest Value) → Root s 0 x (tree (value o w) ks) → Dec (levels ks < d) → d ≡ levels ks
        by x o w ks r (yes t) = least x o w ks r t
        by x o w ks r (no t) = omega (arith, shallow s h p n q d e l x o w ks bs u r)

        go : (x : ℕ) (t : Tree Value) → Root s 0 x t → d ≡ levels (children t)
        go x (tree (value o w) ks) r = by x o w ks r (dec_lt (levels ks) d)

    pub levels-past : (y : Option (ℕ × ℕ)) (b : Bool) → d ≤ 6 → Octets s → y ≡ scan s d n.count 0 48 n.start → b ≡ is_some y → b ≡ true → LevelsBelow s d
    levels-past None b dl bs u w v = no-fault v w
    levels-past (Some z) b dl bs u w v = levels-kept z.0 z.1 dl bs (sym u)

pub ruleset levels-laws = (levels-fault, levels-bad, levels-past)
