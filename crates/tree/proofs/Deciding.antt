-- What `is_tree`, `is_session_tree` and `within` find, one law for each way out.
use mathlib.Core.Path.{◌≡◌, refl, ap, sym, subst, ◌∙◌}
use mathlib.Core.List.{List, ◌++◌}
use mathlib.Core.Bool.{Bool, true, false, ◌&&◌}
use Prim.Native.Nat.{ℕ, ◌+◌, ◌-◌, ◌≤◌, ◌<◌}
use native.Mathlib.Omega.{arith}
use native.Mathlib.Decide.{dec_lt}
use lib.ListN.{length, get_or, drop}
use lib.Dec.{eqb, leb}
use borrow.Author.Tests.{eq-eqb, ne_eqb, le-leb, lt-leb}
use Rattle.tree_forest.specs.Forest.{Forest, end, node, Tree, tree, Lookup, absent, present, Rising, nodes, levels}
use Rattle.scalar.specs.Basic.{void}
use Rattle.scalar.specs.Value.{Value, value}
use Rattle.basics.specs.Choice.{pick}
use Rattle.basics.specs.TestLaws.{both_true}
use Rattle.tree.specs.Encode.{root_count, payload, children, encode, rooted, Octets, Proper, SoundValues}
use Rattle.tree.specs.Decode.{id_at, basic_at, count_at, value_at, next_at, head_ok, head_at, Parse, bad, past, test, parse, scan, whole_of, decode, is_tree, empty_root, is_session_tree}
use Rattle.tree_forest.specs.Forest.{is_present}
use Rattle.tree.specs.Standing.{Within}
use Rattle.tree.specs.EncodeLaws.{got, fault, Fields, node-fields, encode-node, parse-complete, parse-sound, scanned, unscanned, good_of, of-good, sound-above, unique}
use Rattle.tree.specs.StandingLaws.{no-fault, no-bad}
use Rattle.tree.specs.declared.Head.{Head}
use Rattle.std.specs.Prelude.{Option, Some, None}
use Rattle.std.specs.Option.{is_some}

module _ (deep many : ℕ) (s : List ℕ) (h : Option Head) (p : h ≡ head_at s 0) where
  pub tree-fault : h ≡ None → false ≡ is_tree deep many s
  unfolding decode
  tree-fault q = rw (fault s 0 p q) refl

  module _ (x : Head) (q : h ≡ Some x) where
    pub tree-id : (x.id ≡ 0 → ⊥) → false ≡ is_tree deep many s
    unfolding decode
    tree-id f = let g = got p q in rw (g.ok, ne_eqb (id_at s 0) 0 (λ e. f (g.id ∙ e))) refl

    pub tree-bad : (y : Option (ℕ × ℕ)) → x.id ≡ 0 → y ≡ scan s deep x.count 0 many x.start → y ≡ None → false ≡ is_tree deep many s
    unfolding decode
    tree-bad y z u v =
        let g = got p q in
        let b = rw (g.count, g.next) at (unscanned s deep x.count 0 many x.start (sym u ∙ v)) in
        rw (g.ok, eq-eqb (id_at s 0) 0 (sym g.id ∙ z), b) refl

    pub tree-past : (y : Option (ℕ × ℕ)) (e l : ℕ) → x.id ≡ 0 → y ≡ scan s deep x.count 0 many x.start → y ≡ Some (e, l) → eqb e (length s) ≡ is_tree deep many s
    unfolding decode
    tree-past y e l z u v =
        let g = got p q in
        let w = scanned s deep (count_at s 0) 0 many (next_at s 0) e l (rw (g.count, g.next) at (sym u ∙ v)) in
        rw (g.ok, eq-eqb (id_at s 0) 0 (sym g.id ∙ z), w.1) (is-pick (eqb e (length s)) _)
      where
        is-pick : (t : Bool) (x : Tree Value) → t ≡ is_present (pick t (present x) absent)
        is-pick true x = refl
        is-pick false x = refl

pub ruleset tree_laws = (tree-fault, tree-id, tree-bad, tree-past)

-- a session's tree
whole-empty : (s : List ℕ) (p : Parse) → is_present (whole_of s p) ≡ true → eqb (basic_at s 0) void ≡ empty_root (whole_of s p)
whole-empty s bad h = absurd (let z : ◌≡◌ {A = ℕ} 0 1 = cc in omega arith)
whole-empty s (past ks e l) h = by (eqb e (length s)) h
  where
    by : (x : Bool) → is_present (pick x (present (tree (value (basic_at s 0) (value_at s 0)) ks)) absent) ≡ true →
        eqb (basic_at s 0) void ≡ empty_root (pick x (present (tree (value (basic_at s 0) (value_at s 0)) ks)) absent)
    by true h = refl
    by false h = absurd (let z : ◌≡◌ {A = ℕ} 0 1 = cc in omega arith)

none-empty : (l : Lookup Value) → is_present l ≡ false → false ≡ empty_root l
none-empty absent e = refl
none-empty (present t) e = absurd (let z : ◌≡◌ {A = ℕ} 0 1 = cc in omega arith)

pub session-none : (s : List ℕ) (b : Bool) → b ≡ is_tree 6 48 s → b ≡ false → b ≡ is_session_tree s
unfolding is_session_tree
session-none s b p q = q ∙ none-empty (decode 6 48 s) (sym p ∙ q)

pub session-root : (s : List ℕ) (b : Bool) (x : ℕ) → b ≡ is_tree 6 48 s → b ≡ true → x ≡ get_or s 2 0 → eqb x 6 ≡ is_session_tree s
unfolding is_session_tree decode
session-root s b x p q e = ap (λ (y : ℕ). eqb y 6) e ∙ whole-empty s (test (head_ok s 0) (test (eqb (id_at s 0) 0) (parse s 6 (count_at s 0) 0 48 (next_at s 0)))) (sym p ∙ q)

pub ruleset session-laws = (session-none, session-root)

-- limits
fits_not : (l z deep many : ℕ) → (l ≤ deep → z ≤ many → ⊥) → (leb l deep && leb z many) ≡ false
fits_not l z deep many h = by (dec_lt deep l) (dec_lt many z)
  where
    and_right : (a b : Bool) → b ≡ false → (a && b) ≡ false
    and_right true b e = e
    and_right false b e = refl

    by : Dec (deep < l) → Dec (many < z) → (leb l deep && leb z many) ≡ false
    by (yes a) d = rw (lt-leb l deep a) refl
    by (no a) (yes b) = and_right (leb l deep) (leb z many) (lt-leb z many b)
    by (no a) (no b) = absurd (h (omega arith) (omega arith))

module _ (deep many : ℕ) (s : List ℕ) (c : ℕ) (w : List ℕ) (f : Forest Value) (rest : List ℕ) (e : s ≡ encode (node 0 (value c w) f end) ++ rest) (ok : Proper (value c w)) where
  at-root : Fields s 0 0 c (root_count f) w (encode f ++ rest)
  unfolding encode
  at-root = node-fields s 0 0 c (root_count f) w (encode f ++ rest) (e ∙ encode-node 0 c w f end rest) ok.valid

  passes : (n m : ℕ) → n ≡ root_count f → m ≡ 5 + length w → Rising f → SoundValues f → levels f ≤ deep → nodes f ≤ many → scan s deep n 0 many m ≡ Some ((5 + length w + length (encode f)), (many - nodes f))
  unfolding scan
  passes n m p q x o l z = let k = parse-complete f s deep 0 many (5 + length w) rest at-root.after (good_of f deep 0 (sound-above f o) x o l) z in rw (p, q, k) refl

  kept : Octets s → (n m a b : ℕ) → n ≡ root_count f → m ≡ 5 + length w → Rising f → SoundValues f → scan s deep n 0 many m ≡ Some (a, b) → (levels f ≤ deep) × (nodes f ≤ many)
  kept bs n m a b p q x o h =
      let k = scanned s deep n 0 many m a b h in
      let st = parse-sound s bs deep n 0 many m k.0 a b k.1 in
      let og = of-good k.0 deep 0 st.good in
      let by : drop (5 + length w) s ≡ encode k.0 ++ drop a s = subst (λ (z : ℕ). drop z s ≡ encode k.0 ++ drop a s) q st.bytes in
      let u = unique s (5 + length w) (levels f) deep 0 0 f k.0 rest (drop a s) at-root.after by (good_of f (levels f) 0 (sound-above f o) x o (omega arith)) st.good (sym (st.many ∙ p)) in
      rw u (og.shallow, omega (arith, st.used))

module _ (deep many : ℕ) (s : List ℕ) (h : Option Head) (p : h ≡ head_at s 0) where
  pub within-fault : h ≡ None → Within deep many s false
  within-fault q = record { tells = go }
    where
      go : (t : Tree Value) (after : List ℕ) → s ≡ encode (rooted t) ++ after → Proper (payload t) → SoundValues (children t) → Rising (children t) →
          false ≡ (leb (levels (children t)) deep && leb (nodes (children t)) many)
      go (tree (value c w) f) rest e ok o x = no-fault (at-root deep many s c w f rest e ok).ok (fault s 0 p q)

  module _ (x : Head) (q : h ≡ Some x) (y : Option (ℕ × ℕ)) (yp : y ≡ scan s deep x.count 0 many x.start) where
    pub within-bad : y ≡ None → Within deep many s false
    within-bad yq = record { tells = go }
      where
        go : (t : Tree Value) (after : List ℕ) → s ≡ encode (rooted t) ++ after → Proper (payload t) → SoundValues (children t) → Rising (children t) →
            false ≡ (leb (levels (children t)) deep && leb (nodes (children t)) many)
        go (tree (value c w) f) rest e ok o up =
            let g = got p q in
            let r = at-root deep many s c w f rest e ok in
            sym (fits_not (levels f) (nodes f) deep many (λ l z. no-bad (sym (passes deep many s c w f rest e ok x.count x.start (g.count ∙ r.count) (g.next ∙ r.next) up o l z) ∙ sym yp ∙ yq)))

    pub within-past : (a d : ℕ) → Octets s → y ≡ Some (a, d) → Within deep many s true
    within-past a d bs yq = record { tells = go }
      where
        go : (t : Tree Value) (after : List ℕ) → s ≡ encode (rooted t) ++ after → Proper (payload t) → SoundValues (children t) → Rising (children t) →
            true ≡ (leb (levels (children t)) deep && leb (nodes (children t)) many)
        go (tree (value c w) f) rest e ok o up =
            let g = got p q in
            let r = at-root deep many s c w f rest e ok in
            let k = kept deep many s c w f rest e ok bs x.count x.start a d (g.count ∙ r.count) (g.next ∙ r.next) up o (sym yp ∙ yq) in
            sym (both_true (le-leb (levels f) deep k.0) (le-leb (nodes f) many k.1))

    pub within-by : Octets s → Within deep many s (is_some y)
    within-by bs = by y refl
      where
        by : (z : Option (ℕ × ℕ)) → y ≡ z → Within deep many s (is_some z)
        by None e = within-bad e
        by (Some z) e = within-past z.0 z.1 bs e
