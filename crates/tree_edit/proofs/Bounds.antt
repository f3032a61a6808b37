-- What `plan_of` says lies within the bytes and agrees with what the path leads to; the ways out of `route`.
use mathlib.Core.Path.{◌≡◌, refl, ap, sym, subst, ◌∙◌}
use mathlib.Core.List.{List, [], ◌∷◌, ◌++◌, append_assoc}
use mathlib.Core.Bool.{true}
use Prim.Native.Nat.{ℕ, suc, ◌+◌, ◌-◌, ◌/◌, ◌%◌, ◌≤◌, ◌<◌}
use native.Mathlib.Omega.{arith}
use lib.ListN.{length, get_or, drop, length-append, length-drop}
use lib.Seq.{get_or_at, drop_at, drop-append_seam}
use Rattle.tree_forest.specs.Compare.{Compare, lt, eq, gt, compare}
use Rattle.tree_forest.specs.Forest.{Forest, end, node, Tree, tree, present, measure, nodes}
use Rattle.tree_forest.specs.Path.{path, read}
use Rattle.scalar.specs.Value.{Value, value}
use Rattle.tree.specs.Encode.{root_count, encode, Octets}
use Rattle.tree_forest.specs.Limits.{session_levels, session_nodes}
use Rattle.tree.specs.EncodeLaws.{encode-node, length-node, split-node, count-nodes, later}
use Rattle.tree.specs.Decode.{head_at, decode, is_tree}
use Rattle.tree.specs.DecodeLaws.{present-is, decode-sound, decoded-root}
use Rattle.tree.specs.Ids.{steps}
use Rattle.tree.specs.IdsLaws.{path-at, steps-length}
use Rattle.tree.specs.Standing.{Row}
use Rattle.tree.specs.StandingLaws.{root-seen, root-unseen, root-kids}
use Rattle.tree.specs.declared.Head.{Head}
use Rattle.tree_edit.specs.ForestWrite.{read-gap, read-on, read-hit, read-deep}
use Rattle.tree_edit.specs.Plan.{plan_of, Led, Gap, Hit, ChildrenAt, Inside, Planned}
use Rattle.tree_edit.specs.declared.Plan.{Plan}
use Rattle.tree_edit.specs.declared.Plan.TheVariants.{Fail}
use Rattle.tree_edit.proofs.Locating.{plan-gap, plan-on, plan-hit, plan-deep}
use Rattle.tree_edit.proofs.Splicing.{read-end, plan-end, front, front-encode, edit-root}
use Rattle.std.specs.Prelude.{Option, Some, None}

module _ (s : List ℕ) where
  abbrev Safe : Forest Value → Type 0
  Safe f = (i : ℕ) (is : List ℕ) (k up at : ℕ) (pre post : List ℕ) → s ≡ pre ++ (encode f ++ post) → length pre ≡ at → up + 3 < at → get_or s (up + 3) 0 < 255 → nodes f < 255 →
      k + suc (length is) ≤ 4 → Inside s (read (path i is) f) (plan_of k i is f up at)

  gap-safe : (l : List ℕ) (k up at n : ℕ) (pre : List ℕ) → s ≡ pre ++ l → length pre ≡ at → up + 3 < at → get_or s (up + 3) 0 < 255 → k + suc n ≤ 4 → Gap s up at k
  gap-safe l k up at n pre e h u g z = record { step = omega arith; above = u; inside = omega (arith, ap length e, length-append pre l); room = g }

  -- the bytes of a node, its header's count, and what follows its children
  module _ (j c : ℕ) (w : List ℕ) (ls rest : Forest Value) (at : ℕ) (pre post : List ℕ) (e : s ≡ pre ++ (encode (node j (value c w) ls rest) ++ post)) (h : length pre ≡ at) where
    hd : List ℕ
    hd = j % 256 ∷ j / 256 ∷ c ∷ root_count ls ∷ length w ∷ w

    below : s ≡ (pre ++ hd) ++ (encode ls ++ (encode rest ++ post))
    unfolding hd
    below = e ∙ rw (encode-node j c w ls rest post) (simp append_assoc)

    below_length : length (pre ++ hd) ≡ at + 5 + length w
    unfolding hd
    below_length = length-append pre (j % 256 ∷ j / 256 ∷ c ∷ root_count ls ∷ length w ∷ w) ∙ omega arith

    count-byte : get_or s (at + 3) 0 ≡ root_count ls
    unfolding hd
    count-byte =
        let p3 : length (pre ++ (j % 256 ∷ j / 256 ∷ c ∷ [])) ≡ at + 3 = length-append pre (j % 256 ∷ j / 256 ∷ c ∷ []) ∙ ap (λ (x : ℕ). x + 3) h in
        let e2 : s ≡ (pre ++ (j % 256 ∷ j / 256 ∷ c ∷ [])) ++ (root_count ls ∷ (length w ∷ (w ++ (encode ls ++ (encode rest ++ post))))) = below ∙ simp append_assoc in
        ap (λ (l : List ℕ). get_or l (at + 3) 0) e2 ∙ get_or_at (pre ++ (j % 256 ∷ j / 256 ∷ c ∷ [])) (root_count ls) (length w ∷ (w ++ (encode ls ++ (encode rest ++ post)))) 0 (at + 3) p3

    children-at : drop (at + 5 + length w) s ≡ encode ls ++ (encode rest ++ post)
    children-at = ap (drop (at + 5 + length w)) below ∙ drop_at (pre ++ hd) (encode ls ++ (encode rest ++ post)) (at + 5 + length w) below_length

    abbrev over : ℕ
    over = at + length (encode (node j (value c w) ls end))

    over-is : over ≡ at + 5 + length w + length (encode ls)
    unfolding encode
    over-is = omega (arith, length-node j c w ls end)

    hit-inside : Hit s at (at + 5 + length w) over × ChildrenAt s (present (tree (value c w) ls)) at (at + 5 + length w) over
    hit-inside =
        let o = over-is in
        let af : drop over s ≡ encode rest ++ post =
        rw o (later s (encode ls ++ (encode rest ++ post)) (at + 5 + length w) (length (encode ls)) children-at ∙ drop-append_seam (encode ls) (encode rest ++ post)) in
        let ln : length s - (at + 5 + length w) ≡ length (encode ls ++ (encode rest ++ post)) = sym (length-drop (at + 5 + length w) s) ∙ ap length children-at in
        let l2 = length-append (encode ls) (encode rest ++ post) in
        let le : length s ≡ length ((pre ++ hd) ++ (encode ls ++ (encode rest ++ post))) = ap length below in
        let l1 = length-append (pre ++ hd) (encode ls ++ (encode rest ++ post)) in (
          record { header = omega arith; middle = omega (arith, o); inside = omega (arith, o, l2, le, l1, below_length) },
          record { root = value c w; kids = ls; is = refl; many = count-byte; after = rw af children-at },
        )

  node-safe : (j c : ℕ) (w : List ℕ) (ls rest : Forest Value) → Safe ls → Safe rest → (i : ℕ) (is : List ℕ) → Compare i j → (k up at : ℕ) (pre post : List ℕ) →
      s ≡ pre ++ (encode (node j (value c w) ls rest) ++ post) → length pre ≡ at → up + 3 < at → get_or s (up + 3) 0 < 255 → nodes (node j (value c w) ls rest) < 255 → k + suc (length is) ≤ 4 →
      Inside s (read (path i is) (node j (value c w) ls rest)) (plan_of k i is (node j (value c w) ls rest) up at)
  unfolding measure
  node-safe j c w ls rest hl hr i is (lt l) k up at pre post e h u g z d =
      rw (plan-gap k i is up at j c w ls rest l) (gap-safe (encode (node j (value c w) ls rest) ++ post) k up at (length is) pre e h u g d, read-gap i is j (value c w) ls rest l)
  node-safe j c w ls rest hl hr i is (gt l) k up at pre post e h u g z d =
      let x = encode (node j (value c w) ls end) in
      let e1 : s ≡ (pre ++ x) ++ (encode rest ++ post) = e ∙ rw (split-node j c w ls rest post) (sym (append_assoc pre x (encode rest ++ post))) in
      let len : length (pre ++ x) ≡ at + length x = length-append pre x ∙ ap (λ (n : ℕ). n + length x) h in
      rw (plan-on k i is up at j c w ls rest l, read-on i is j (value c w) ls rest l) (hr i is k up (at + length x) (pre ++ x) post e1 len (omega arith) g (omega arith) d)
  node-safe j c w ls rest hl hr i [] (eq q) k up at pre post e h u g z d =
      rw (q, plan-hit k j up at c w ls rest, read-hit j (value c w) ls rest) (hit-inside j c w ls rest at pre post e h)
  node-safe j c w ls rest hl hr i (y ∷ ys) (eq q) k up at pre post e h u g z d =
      rw (q, plan-deep k j y ys up at c w ls rest, read-deep j y ys (value c w) ls rest)
      (hl y ys (k + 1) at (at + 5 + length w) (pre ++ hd j c w ls rest at pre post e h) (encode rest ++ post) (below j c w ls rest at pre post e h) (below_length j c w ls rest at pre post e h)
      (omega arith) (omega (arith, count-byte j c w ls rest at pre post e h, count-nodes ls)) (omega arith) (omega arith))

  pub plan-inside : (f : Forest Value) → Safe f
  plan-inside end i is k up at pre post e h u g z d = rw (plan-end k i is up at) (gap-safe (encode end ++ post) k up at (length is) pre e h u g d, read-end i is)
  plan-inside (node j (value c w) ls rest) i is k up at pre post e h u g z d = node-safe j c w ls rest (plan-inside ls) (plan-inside rest) i is (compare i j) k up at pre post e h u g z d

-- the plan of a whole tree
planned : (s ids : List ℕ) (c : ℕ) (w : List ℕ) (f : Forest Value) (r : Plan) → length ids ≡ 4 → decode session_levels session_nodes s ≡ present (tree (value c w) f) → s ≡ encode (node 0 (value c w) f end) →
    nodes f ≤ 48 → r ≡ plan_of 0 (get_or ids 0 0) (steps (drop 1 ids)) f 0 (5 + length w) → Planned s ids r
planned s ids c w f r four dec es small led =
    let p = path-at ids four in
    let sl = steps-length (drop 1 ids) in
    let ld = length-drop 1 ids in
    let cs = count-nodes f in
    let e1 : s ≡ front c w f ++ (encode f ++ []) = es ∙ front-encode c w f in
    let b3 : get_or s 3 0 ≡ root_count f = ap (λ (l : List ℕ). get_or l 3 0) e1 in
    let ins = plan-inside s f (get_or ids 0 0) (steps (drop 1 ids)) 0 0 (5 + length w) (front c w f) [] e1 (omega arith) (omega arith) (omega (arith, b3, cs)) (omega arith) (omega arith) in
    record {
      root = value c w;
      kids = f;
      decoded = dec;
      inside = rw (p, led) ins;
      right = λ missing g. rw (p, led) (edit-root missing g ids s c w f es);
    }

routed : (s ids : List ℕ) (t : Tree Value) → Octets s → decode session_levels session_nodes s ≡ present t → length ids ≡ 4 → (h : Option Head) (y : Head) (r : Plan) → h ≡ head_at s 0 → h ≡ Some y →
    Led s 0 (get_or ids 0 0) (steps (drop 1 ids)) 0 y.start y.count r → Planned s ids r
routed s ids (tree (value d w) f) bs dec four h y r p q ld =
    let x = decode-sound session_levels session_nodes s (tree (value d w) f) bs dec in
    let root = decoded-root s (tree (value d w) f) bs dec in
    let u = root-seen s 0 0 d w f root h y.id y.basic y.count y.start p q in
    let rows = root-kids s 0 0 d w f root in
    let row : Row s y.start f = subst (λ (z : ℕ). Row s z f) (sym u.next) rows in
    let led = ld.leads f row (sym u.count) ∙ ap (plan_of 0 (get_or ids 0 0) (steps (drop 1 ids)) f 0) u.next in
    planned s ids d w f r four dec x.bytes x.good.few led

module _ (s ids : List ℕ) (four : length ids ≡ 4) (ok : is_tree 6 48 s ≡ true) (bs : Octets s) (h : Option Head) (p : h ≡ head_at s 0) where
  pub route-fault : h ≡ None → Planned s ids Fail
  route-fault q =
      let w = present-is (decode 6 48 s) ok in
      root-unseen s 0 0 w.0 (decoded-root s w.0 bs w.1) h p q

  pub route-on : (y : Head) (r : Plan) → h ≡ Some y → Led s 0 (get_or ids 0 0) (steps (drop 1 ids)) 0 y.start y.count r → Planned s ids r
  route-on y r q ld = let w = present-is (decode 6 48 s) ok in routed s ids w.0 bs w.1 four h y r p q ld

pub ruleset route-laws = (route-fault, route-on)
