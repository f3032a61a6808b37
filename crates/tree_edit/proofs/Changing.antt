-- The whole change of a tree, at each of the ways out of `put`, `set_value` and `subtree`.
use mathlib.Core.Path.{◌≡◌, refl, ap, sym, subst, ◌∙◌}
use mathlib.Core.List.{List, [], ◌∷◌, ◌++◌, append-nil, append_assoc}
use mathlib.Core.Bool.{Bool, true, false}
use Prim.Native.Nat.{ℕ, ◌+◌, ◌-◌, ◌/◌, ◌%◌, ◌≤◌}
use native.Mathlib.Omega.{arith}
use lib.ListN.{length, get_or, take, drop, set}
use lib.Seq.{drop-drop, take-append_seam}
use Rattle.tree_forest.specs.Forest.{Forest, end, node, Tree, tree, Lookup, present, children_of, nodes, measure}
use Rattle.tree_forest.specs.Path.{Path, read, replace_at, set_payload_at}
use Rattle.scalar.specs.Value.{Value, value}
use Rattle.tree.specs.Encode.{root_count, children, encode, rooted, Octets}
use Rattle.tree.specs.EncodeLaws.{length-node}
use Rattle.tree.specs.Decode.{decode, is_tree}
use Rattle.tree.specs.DecodeLaws.{present-is, decode-sound, decoded-root}
use Rattle.tree.specs.Ids.{is_path, path_from_ids, steps, last_id}
use Rattle.tree.specs.Standing.{Root, Spot, Ended, Followed}
use Rattle.tree.specs.StandingLaws.{root-inside}
use Rattle.tree_edit.specs.Wrote.{Wrote}
use Rattle.tree_edit.specs.WroteLaws.{wrote_as, wrote-more, wrote_none, wrote-all-of}
use Rattle.tree_edit.specs.Change.{missing_value, replaced, assigned_bytes, alone, subtree_of}
use Rattle.tree_edit.specs.Plan.{body, prefix, spliced, Gap, Hit, Inside, Planned}
use Rattle.tree_edit.specs.declared.Plan.{Plan}
use Rattle.tree_edit.specs.declared.Plan.TheVariants.{Insert, Replace, Fail}
use Rattle.tree_edit.proofs.Splicing.{node-body}
use Rattle.std.specs.Prelude.{Option, Some, None}

-- a plan that is known
inside-as : (s ids : List ℕ) (r q : Plan) → r ≡ q → (w : Planned s ids r) → Inside s (read (path_from_ids ids) w.kids) q
inside-as s ids r q e w = subst (Inside s (read (path_from_ids ids) w.kids)) e w.inside

pub gap_of : (s ids : List ℕ) (r : Plan) (up p k : ℕ) → Planned s ids r → r ≡ Insert up p k → Gap s up p k
gap_of s ids r up p k w e = (inside-as s ids r (Insert up p k) e w).0

pub hit-of : (s ids : List ℕ) (r : Plan) (p m q : ℕ) → Planned s ids r → r ≡ Replace p m q → Hit s p m q
hit-of s ids r p m q w e = (inside-as s ids r (Replace p m q) e w).0

pub not-fail : {A : Type 0} (s ids : List ℕ) (r : Plan) → Planned s ids r → r ≡ Fail → A
not-fail s ids r w e = absurd (inside-as s ids r Fail e w)

-- the bytes of a tree alone
drop-body : (m : List ℕ) (t : Tree Value) → m ≡ encode (rooted t) → drop 2 m ≡ body t
unfolding encode
drop-body m (tree (value b v) ks) e = rw e (simp append-nil)

rooted-body : (t : Tree Value) → encode (rooted t) ≡ 0 ∷ 0 ∷ body t
unfolding encode
rooted-body (tree (value b v) ks) = simp append-nil

long-enough : (m : List ℕ) (t : Tree Value) → m ≡ encode (rooted t) → 5 ≤ length m
long-enough m (tree (value b v) ks) e = omega (arith, ap length e, length-node 0 b v ks end)

pub message-long : (deep many : ℕ) (m : List ℕ) → Octets m → is_tree deep many m ≡ true → 5 ≤ length m
message-long deep many m bs ok = let x = present-is (decode deep many m) ok in long-enough m x.0 (decode-sound deep many m x.0 bs x.1).bytes

-- the bytes of a change, once the trees are known
replaced-is : (ty : Bool) (x : Path) (m s : Lookup Value) (t : Tree Value) (a : Value) (f : Forest Value) → m ≡ present t → s ≡ present (tree a f) →
    encode (rooted (tree a (replace_at (missing_value ty) x t f))) ≡ replaced ty x m s
replaced-is ty x m s t a f p q = rw (p, q) refl

assigned-is : (x : Path) (m s : Lookup Value) (b : Value) (ks : Forest Value) (a : Value) (f : Forest Value) → m ≡ present (tree b ks) → s ≡ present (tree a f) →
    encode (rooted (tree a (set_payload_at (missing_value false) x b f))) ≡ assigned_bytes x m s
assigned-is x m s b ks a f p q = rw (p, q) refl

-- the ways out of `put`
module _ (ty : Bool) (s m ids : List ℕ) (r : Plan) (bs : Octets m) (ok : is_tree 6 48 m ≡ true) (w : Planned s ids r) where
  put_right : (q : Plan) → r ≡ q → spliced (missing_value ty) ids (drop 2 m) q s ≡ replaced ty (path_from_ids ids) (decode 6 48 m) (decode 6 48 s)
  put_right q e =
      let x = present-is (decode 6 48 m) ok in
      let b = drop-body m x.0 (decode-sound 6 48 m x.0 bs x.1).bytes in
      ap (λ (z : Plan). spliced (missing_value ty) ids (drop 2 m) z s) (sym e) ∙ ap (λ (z : List ℕ). spliced (missing_value ty) ids z r s) b
      ∙ w.right (missing_value ty) (λ l. x.0) ∙ replaced-is ty (path_from_ids ids) (decode 6 48 m) (decode 6 48 s) x.0 w.root w.kids x.1 w.decoded

  pub put-inserted : {o o' : List ℕ} {e : ℕ} (up p k : ℕ) → r ≡ Insert up p k →
      Wrote o o' 0 e e (set (take p s) (up + 3) (get_or s (up + 3) 0 + 1) ++ (prefix (missing_value ty) (get_or ids k 0) (steps (drop (k + 1) ids)) ++ (drop 2 m ++ drop p s))) →
      Wrote o o' 0 e e (replaced ty (path_from_ids ids) (decode 6 48 m) (decode 6 48 s))
  unfolding spliced
  put-inserted up p k q x = wrote_as (put_right (Insert up p k) q) refl x

  pub put-replaced : {o o' : List ℕ} {e : ℕ} (p mid q : ℕ) → r ≡ Replace p mid q → Wrote o o' 0 e e (take (p + 2) s ++ (drop 2 m ++ drop q s)) →
      Wrote o o' 0 e e (replaced ty (path_from_ids ids) (decode 6 48 m) (decode 6 48 s))
  unfolding spliced
  put-replaced p mid q h x = wrote_as (put_right (Replace p mid q) h) refl x

-- a leaf has no children
leaf-end : (f : Forest Value) → nodes f ≤ 0 → f ≡ end
unfolding measure
leaf-end end h = refl
leaf-end (node i a ks rest) h = absurd (omega arith)

-- the ways out of `set_value`
module _ (s m ids : List ℕ) (r : Plan) (bs : Octets m) (ok : is_tree 0 0 m ≡ true) (w : Planned s ids r) where
  record Leaf : Type 0 where
    basic : ℕ
    val : List ℕ
    is : decode 0 0 m ≡ present (tree (value basic val) end)
    bytes : m ≡ encode (rooted (tree (value basic val) end))

  leaf-by : (t : Tree Value) → decode 0 0 m ≡ present t → Leaf
  leaf-by (tree (value b v) ks) e =
      let x = decode-sound 0 0 m (tree (value b v) ks) bs e in
      let z = leaf-end ks x.good.few in
      record { basic = b; val = v; is = e ∙ ap (λ (f : Forest Value). present (tree (value b v) f)) z; bytes = x.bytes ∙ ap (λ (f : Forest Value). encode (node 0 (value b v) f end)) z }

  a-leaf : Leaf
  a-leaf = let x = present-is (decode 0 0 m) ok in leaf-by x.0 x.1

  set-right : (b : ℕ) (v : List ℕ) → decode 0 0 m ≡ present (tree (value b v) end) → (q : Plan) → r ≡ q →
      spliced (missing_value false) ids (body (tree (value b v) (children_of (read (path_from_ids ids) w.kids)))) q s ≡ assigned_bytes (path_from_ids ids) (decode 0 0 m) (decode 6 48 s)
  set-right b v i q e =
      ap (λ (z : Plan). spliced (missing_value false) ids (body (tree (value b v) (children_of (read (path_from_ids ids) w.kids)))) z s) (sym e)
      ∙ w.right (missing_value false) (λ l. tree (value b v) (children_of l)) ∙ assigned-is (path_from_ids ids) (decode 0 0 m) (decode 6 48 s) (value b v) end w.root w.kids i w.decoded

  pub set-inserted : {o o' : List ℕ} {e : ℕ} (up p k : ℕ) → r ≡ Insert up p k →
      Wrote o o' 0 e e (set (take p s) (up + 3) (get_or s (up + 3) 0 + 1) ++ (prefix (missing_value false) (get_or ids k 0) (steps (drop (k + 1) ids)) ++ (drop 2 m ++ drop p s))) →
      Wrote o o' 0 e e (assigned_bytes (path_from_ids ids) (decode 0 0 m) (decode 6 48 s))
  set-inserted up p k q x =
      let l = a-leaf in
      let none = (inside-as s ids r (Insert up p k) q w).1 in
      let b : drop 2 m ≡ body (tree (value l.basic l.val) (children_of (read (path_from_ids ids) w.kids))) =
      drop-body m (tree (value l.basic l.val) end) l.bytes ∙ ap (λ (z : Lookup Value). body (tree (value l.basic l.val) (children_of z))) (sym none) in
      wrote_as (splice (drop 2 m) ∙ ap (λ (z : List ℕ). spliced (missing_value false) ids z (Insert up p k) s) b ∙ set-right l.basic l.val l.is (Insert up p k) q) refl x
    where
      splice : (new : List ℕ) → set (take p s) (up + 3) (get_or s (up + 3) 0 + 1) ++ (prefix (missing_value false) (get_or ids k 0) (steps (drop (k + 1) ids)) ++ (new ++ drop p s)) ≡ spliced (missing_value false) ids new (Insert up p k) s
      splice new = unfold spliced in refl

  pub set-kept : {o o' : List ℕ} {e : ℕ} (p mid q : ℕ) → r ≡ Replace p mid q →
      Wrote o o' 0 e e (take (p + 2) s ++ (get_or m 2 0 ∷ get_or s (p + 3) 0 ∷ (drop 4 m ++ drop mid s))) →
      Wrote o o' 0 e e (assigned_bytes (path_from_ids ids) (decode 0 0 m) (decode 6 48 s))
  set-kept p mid q h x =
      let l = a-leaf in
      let k = (inside-as s ids r (Replace p mid q) h w).1 in
      let bt = body (tree (value l.basic l.val) (children_of (read (path_from_ids ids) w.kids))) in
      let e : take (p + 2) s ++ (get_or m 2 0 ∷ get_or s (p + 3) 0 ∷ (drop 4 m ++ drop mid s)) ≡ take (p + 2) s ++ (bt ++ drop q s) =
      same p mid q l.basic l.val (read (path_from_ids ids) w.kids) k.root k.kids l.bytes k.is k.many k.after in
      wrote_as (e ∙ splice bt ∙ set-right l.basic l.val l.is (Replace p mid q) h) refl x
    where
      splice : (new : List ℕ) → take (p + 2) s ++ (new ++ drop q s) ≡ spliced (missing_value false) ids new (Replace p mid q) s
      splice new = unfold spliced in refl

      same : (p mid q b : ℕ) (v : List ℕ) (l : Lookup Value) (a : Value) (ks : Forest Value) → m ≡ encode (rooted (tree (value b v) end)) → l ≡ present (tree a ks) →
          get_or s (p + 3) 0 ≡ root_count ks → drop mid s ≡ encode ks ++ drop q s →
          take (p + 2) s ++ (get_or m 2 0 ∷ get_or s (p + 3) 0 ∷ (drop 4 m ++ drop mid s)) ≡ take (p + 2) s ++ (body (tree (value b v) (children_of l)) ++ drop q s)
      same p mid q b v l a ks e i n d =
          let m2 : get_or m 2 0 ≡ b = unfold encode in ap (λ (z : List ℕ). get_or z 2 0) e in
          let m4 : drop 4 m ≡ length v ∷ v = unfold encode in (ap (drop 4) e ∙ simp append-nil) in
          rw (m2, m4, n, d, i) (ap (λ (z : List ℕ). take (p + 2) s ++ (b ∷ root_count ks ∷ length v ∷ z)) (sym (append_assoc v (encode ks) (drop q s))))

-- the ways out of `subtree`
subtree-is : (x : Path) (l : Lookup Value) (t : Tree Value) → l ≡ present t → alone (read x (children t)) ≡ subtree_of x l
subtree-is x l (tree a f) e = rw e refl

module _ (s ids : List ℕ) (bs : Octets s) (ok : is_tree 6 48 s ≡ true) (good : is_path ids ≡ true) (r : Option ℕ) (f : Followed s ids r) where
  record Came (r₁ : Option ℕ) : Type 0 where
    there : Tree Value
    is : alone (read (path_from_ids ids) (children there)) ≡ subtree_of (path_from_ids ids) (decode 6 48 s)
    spot : Spot s (last_id (path_from_ids ids)) r₁ (read (path_from_ids ids) (children there))

  came : (r' : Option ℕ) → r ≡ r' → Came r'
  came r' e =
      let w = present-is (decode 6 48 s) ok in
      record {
        there = w.0;
        is = subtree-is (path_from_ids ids) (decode 6 48 s) w.0 w.1;
        spot = subst (λ (z : Option ℕ). Spot s (last_id (path_from_ids ids)) z (read (path_from_ids ids) (children w.0))) e (f.tells 0 w.0 (decoded-root s w.0 bs w.1) good);
      }

  pub subtree-none : (o : List ℕ) → r ≡ None → Wrote o o 0 0 0 (subtree_of (path_from_ids ids) (decode 6 48 s))
  subtree-none o e = let c = came None e in wrote_as (sym (ap alone c.spot) ∙ c.is) refl (wrote_none o 0 (omega arith))

  module _ (at e : ℕ) (q : r ≡ Some at) (n : Ended s at e) where
    record Sizes : Type 0 where
      pub header : at + 5 ≤ e
      pub inside : e ≤ length s

    sizes-by : (i : ℕ) (t : Tree Value) → Root s at i t → Sizes
    sizes-by i (tree (value b v) ks) w =
        let z = n.ends i (tree (value b v) ks) w in
        let u = root-inside s at i (tree (value b v) ks) w in
        record { header = omega (arith, z, length-node i b v ks end); inside = omega (arith, z, u) }

    pub subtree-sizes : (at + 5 ≤ e) × (e ≤ length s)
    subtree-sizes = let c = came (Some at) q in let z = sizes-by _ c.spot.there c.spot.root in (z.header, z.inside)

    tail-by : (i : ℕ) (t : Tree Value) → Root s at i t → 0 ∷ 0 ∷ take (e - at - 2) (drop (at + 2) s) ≡ encode (rooted t)
    tail-by i (tree (value b v) ks) w =
        let z = n.ends i (tree (value b v) ks) w in
        let ln = length-node i b v ks end in
        let by : drop at s ≡ i % 256 ∷ i / 256 ∷ (body (tree (value b v) ks) ++ w.after) = w.bytes ∙ unfold encode in node-body i (tree (value b v) ks) end w.after in
        let d2 : drop (at + 2) s ≡ body (tree (value b v) ks) ++ w.after = sym (drop-drop 2 at s) ∙ ap (drop 2) by in
        let e0 = node-body i (tree (value b v) ks) end [] in
        let bl : length (body (tree (value b v) ks)) + 2 ≡ length (encode (node i (value b v) ks end)) =
        unfold encode in (sym (omega (arith, ap length e0, ap length (append-nil (encode (node i (value b v) ks end))), ap length (append-nil (body (tree (value b v) ks)))))) in
        let n2 : e - at - 2 ≡ length (body (tree (value b v) ks)) = omega (arith, z, bl) in
        rw (n2, d2, take-append_seam (body (tree (value b v) ks)) w.after) (sym (rooted-body (tree (value b v) ks)))

    pub subtree-found : {o o₁ o₂ : List ℕ} {a c k : ℕ} → Wrote o o₁ 0 a 2 (0 ∷ 0 ∷ []) → Wrote o₁ o₂ a c k (take k (drop (at + 2) s)) → k ≡ e - at - 2 → Wrote o o₂ 0 c c (subtree_of (path_from_ids ids) (decode 6 48 s))
    subtree-found {k = k} x y h =
        let c = came (Some at) q in
        wrote-all-of (ap (λ (z : ℕ). 0 ∷ 0 ∷ take z (drop (at + 2) s)) h ∙ tail-by _ c.spot.there c.spot.root ∙ sym (ap alone c.spot.is) ∙ c.is) (wrote-more x y)
