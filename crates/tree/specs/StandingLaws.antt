-- Laws of forests and trees that stand at a position: their headers, children and later siblings, and where they end.
use Rattle.std.specs.Prelude.{◌≡◌, refl, List, [], ◌++◌, Bool, true, false, ℕ, ◌+◌, ◌-◌, ◌≤◌, take}
use Rattle.std.proofs.Common.{ap, subst, ◌∙◌, append-nil, arith, length-drop, length-append}
use Rattle.std.proofs.Math.Path.{sym}
use Rattle.std.proofs.Math.ListN.{length, drop}
use Rattle.std.proofs.Math.Seq.{drop-append_seam, take-append_seam}
use Rattle.tree_forest.specs.Forest.{Forest, end, node, Tree, tree, node_of, measure, nodes}
use Rattle.scalar.specs.Value.{Value, value}
use Rattle.tree.specs.Encode.{root_count, children, encode, rooted, Encodes, WellFormedTree}
use Rattle.tree_forest.specs.Limits.{session_levels, session_nodes}
use Rattle.tree.specs.Decode.{value_at, head_at, scan}
use Rattle.tree.specs.Standing.{Good, Row, Root, Ended}
use Rattle.tree.specs.EncodeLaws.{Got, got, fault, Fine, of-good, Fields, node-fields, encode-node, length-node, split-node, later, parse-complete}
use Rattle.tree.specs.EncodeLaws.{good_of, good-up, sound-above}
use Rattle.tree.specs.declared.Head.{Head}
use Rattle.std.specs.Prelude.{Option, Some, None}
use Rattle.tree.specs.Decode.{header}

pub no-fault : {b : Bool} {A : Type 0} → b ≡ true → b ≡ false → A
no-fault h k = let z : ◌≡◌ {A = ℕ} 0 1 = cc in absurd (omega arith)

pub no-bad : {e l : ℕ} {A : Type 0} → ◌≡◌ {A = Option (ℕ × ℕ)} (Some (e, l)) None → A
no-bad h = let z : ◌≡◌ {A = ℕ} 0 1 = cc in absurd (omega arith)

-- what the first node of a row is read as
pub row-fields : (s : List ℕ) (at i b : ℕ) (v : List ℕ) (ks rest : Forest Value) → (w : Row s at (node i (value b v) ks rest)) →
    Fields s at i b (root_count ks) v (encode ks ++ (encode rest ++ w.after))
unfolding Good
row-fields s at i b v ks rest w =
    node-fields s at i b (root_count ks) v (encode ks ++ (encode rest ++ w.after)) (w.bytes ∙ encode-node i b v ks rest w.after) w.good.2.valid

-- what the root of a tree is read as
pub root-fields : (s : List ℕ) (at i b : ℕ) (v : List ℕ) (ks : Forest Value) → (w : Root s at i (tree (value b v) ks)) →
    Fields s at i b (root_count ks) v (encode ks ++ w.after)
unfolding encode
root-fields s at i b v ks w =
    node-fields s at i b (root_count ks) v (encode ks ++ w.after) (w.bytes ∙ encode-node i b v ks end w.after) w.proper.valid

-- the first tree of a row, its children and its later siblings
module _ (s : List ℕ) (at j b : ℕ) (v : List ℕ) (ks rest : Forest Value) (w : Row s at (node j (value b v) ks rest)) where
  pub row-root : Root s at j (tree (value b v) ks)
  unfolding Good measure encode
  row-root = record {
    after = encode rest ++ w.after;
    bytes = w.bytes ∙ encode-node j b v ks rest w.after ∙ sym (encode-node j b v ks end (encode rest ++ w.after));
    proper = w.good.2;
    good = good-up ks 5 6 0 (omega arith) w.good.3;
    small = omega (arith, w.small);
  }

  pub row-kids : Row s (at + 5 + length v) ks
  unfolding Good measure
  row-kids = record {
    after = encode rest ++ w.after;
    last = 0;
    bytes = (row-fields s at j b v ks rest w).after;
    good = good-up ks 5 6 0 (omega arith) w.good.3;
    small = omega (arith, w.small);
  }

  pub row-rest : Row s (at + length (encode (node j (value b v) ks end))) rest
  unfolding Good measure
  row-rest = record {
    after = w.after;
    last = j;
    bytes = rest-bytes;
    good = w.good.4;
    small = omega (arith, w.small);
  }
    where
      rest-bytes : drop (at + length (encode (node j (value b v) ks end))) s ≡ encode rest ++ w.after
      rest-bytes =
          later s (encode (node j (value b v) ks rest) ++ w.after) at (length (encode (node j (value b v) ks end))) w.bytes
          ∙ rw (split-node j b v ks rest w.after) (drop-append_seam (encode (node j (value b v) ks end)) (encode rest ++ w.after))

-- the children of a tree
pub root-kids : (s : List ℕ) (at i b : ℕ) (v : List ℕ) (ks : Forest Value) → Root s at i (tree (value b v) ks) → Row s (at + 5 + length v) ks
root-kids s at i b v ks w = record { after = w.after; last = 0; bytes = (root-fields s at i b v ks w).after; good = w.good; small = w.small }

-- what a header that was read where a row's first node stands says of it
pub record Seen (at x d : ℕ) (v : List ℕ) (ks : Forest Value) (i b c m : ℕ) : Type 0 where
  pub id : i ≡ x
  pub basic : b ≡ d
  pub count : c ≡ root_count ks
  pub next : m ≡ at + 5 + length v

seen_by : (s : List ℕ) (at x d : ℕ) (v t : List ℕ) (ks : Forest Value) (i b c m : ℕ) → Fields s at x d (root_count ks) v t → Got s at i b c m →
    Seen at x d v ks i b c m
seen_by s at x d v t ks i b c m w g = record { id = g.id ∙ w.id; basic = g.basic ∙ w.basic; count = g.count ∙ w.count; next = g.next ∙ w.next }

pub seen : (s : List ℕ) (at x d : ℕ) (v : List ℕ) (ks rest : Forest Value) → Row s at (node x (value d v) ks rest) → (h : Option Head) (i b c m : ℕ) →
    h ≡ head_at s at → h ≡ Some (header i b c m) →
    Seen at x d v ks i b c m
seen s at x d v ks rest w h i b c m p q = seen_by s at x d v _ ks i b c m (row-fields s at x d v ks rest w) (got p q)

pub unseen : {A : Type 0} (s : List ℕ) (at x d : ℕ) (v : List ℕ) (ks rest : Forest Value) → Row s at (node x (value d v) ks rest) → (h : Option Head) →
    h ≡ head_at s at → h ≡ None → A
unseen s at x d v ks rest w h p q = no-fault (row-fields s at x d v ks rest w).ok (fault s at p q)

-- the same at the root of a tree
pub root-seen : (s : List ℕ) (at x d : ℕ) (v : List ℕ) (ks : Forest Value) → Root s at x (tree (value d v) ks) → (h : Option Head) (i b c m : ℕ) →
    h ≡ head_at s at → h ≡ Some (header i b c m) →
    Seen at x d v ks i b c m
root-seen s at x d v ks w h i b c m p q = seen_by s at x d v _ ks i b c m (root-fields s at x d v ks w) (got p q)

pub root-unseen : {A : Type 0} (s : List ℕ) (at i : ℕ) (t : Tree Value) → Root s at i t → (h : Option Head) → h ≡ head_at s at → h ≡ None → A
root-unseen s at i (tree (value b v) ks) w h p q = no-fault (root-fields s at i b v ks w).ok (fault s at p q)

-- the children of a tree are scanned to its end
pub root-scan : (s : List ℕ) (at x d : ℕ) (v : List ℕ) (ks : Forest Value) → Root s at x (tree (value d v) ks) → (h : Option Head) (i b c m : ℕ) →
    h ≡ head_at s at → h ≡ Some (header i b c m) →
    scan s session_levels c 0 session_nodes m ≡ Some ((at + length (encode (node x (value d v) ks end))), (session_nodes - nodes ks))
unfolding scan encode
root-scan s at x d v ks w h i b c m p q =
    let u = root-seen s at x d v ks w h i b c m p q in
    let k = parse-complete ks s session_levels 0 session_nodes (at + 5 + length v) w.after (root-fields s at x d v ks w).after w.good w.small in
    let l = length-node x d v ks end in
    let e : at + 5 + length v + length (encode ks) ≡ at + length (encode (node x (value d v) ks end)) = omega (arith, l) in
    rw (u.count, u.next, k) (ap (λ (z : ℕ). Some (z, (session_nodes - nodes ks))) e)

-- a tree lies within the bytes
pub root-inside : (s : List ℕ) (at i : ℕ) (t : Tree Value) → Root s at i t → at + length (encode (node_of i t end)) ≤ length s
root-inside s at i (tree (value b v) ks) w =
    let a : length s - at ≡ length (encode (node i (value b v) ks end) ++ w.after) = sym (length-drop at s) ∙ ap length w.bytes in
    let l = length-append (encode (node i (value b v) ks end)) w.after in
    let n = length-node i b v ks end in
    omega (arith, a, l, n)

-- the bytes of a tree are that part of the bytes
pub root-part : (s : List ℕ) (at e i : ℕ) (t : Tree Value) → Root s at i t → e ≡ at + length (encode (node_of i t end)) →
    take (e - at) (drop at s) ≡ encode (node_of i t end)
root-part s at e i t w h =
    let d : e - at ≡ length (encode (node_of i t end)) = omega arith in
    rw (d, w.bytes) (take-append_seam (encode (node_of i t end)) w.after)

-- a tree in its byte form, within the largest limits, stands at the start
pub encodes-root : (deep many : ℕ) (s : List ℕ) (t : Tree Value) → deep ≤ session_levels → many ≤ session_nodes → Encodes deep many s t → Root s 0 0 t
encodes-root deep many s t d n m =
    let g = m.good in
    record {
      after = [];
      bytes = m.bytes ∙ sym (append-nil (encode (rooted t)));
      proper = g.root;
      good = good_of (children t) session_levels 0 (sound-above (children t) g.sound) g.rising g.sound (omega (arith, g.shallow));
      small = omega (arith, g.few);
    }

-- what stands somewhere is well formed
pub row_fine : (s : List ℕ) (at : ℕ) (f : Forest Value) → Row s at f → Fine session_levels f
row_fine s at f w = of-good f session_levels w.last w.good

pub root-fine : (s : List ℕ) (at i : ℕ) (t : Tree Value) → Root s at i t → Fine session_levels (children t)
root-fine s at i t w = of-good (children t) session_levels 0 w.good

-- a row without siblings
pub row-empty : (f : Forest Value) (n : ℕ) → root_count f ≡ n → n ≡ 0 → f ≡ end
unfolding root_count
row-empty end n e z = refl
row-empty (node i a ks rest) n e z = absurd (omega arith)

-- the first of n siblings at `at`, whose header was read: the node, its children, which stand at m, and the others
pub record First (s : List ℕ) (at n : ℕ) (f : Forest Value) (i b c m : ℕ) : Type 0 where
  pub bytes : List ℕ
  pub kids : Forest Value
  pub rest : Forest Value
  pub whole : f ≡ node i (value b bytes) kids rest
  pub read : value_at s at ≡ bytes
  pub many : root_count kids ≡ c
  pub fewer : root_count rest ≡ n - 1
  pub root : Root s at i (tree (value b bytes) kids)
  pub below : Row s m kids
  pub next : (e : ℕ) → Ended s at e → Row s e rest

first-node : (s : List ℕ) (at n x d : ℕ) (v : List ℕ) (ks rest : Forest Value) → Row s at (node x (value d v) ks rest) →
    root_count (node x (value d v) ks rest) ≡ n →
    (i b c m : ℕ) → i ≡ x → b ≡ d → c ≡ root_count ks → m ≡ at + 5 + length v → First s at n (node x (value d v) ks rest) i b c m
unfolding root_count
first-node s at n x d v ks rest w e i b c m p q r u = record {
  bytes = v;
  kids = ks;
  rest = rest;
  whole = rw (p, q) refl;
  read = (row-fields s at x d v ks rest w).value;
  many = sym r;
  fewer = omega arith;
  root = rw (p, q) (row-root s at x d v ks rest w);
  below = rw u (row-kids s at x d v ks rest w);
  next = λ e z. subst (λ (y : ℕ). Row s y rest) (sym (z.ends x (tree (value d v) ks) (row-root s at x d v ks rest w))) (row-rest s at x d v ks rest w);
}

pub first : (s : List ℕ) (at n : ℕ) (f : Forest Value) → Row s at f → root_count f ≡ n → (n ≡ 0 → ⊥) → (h : Option Head) (i b c m : ℕ) → h ≡ head_at s at →
    h ≡ Some (header i b c m) → First s at n f i b c m
first s at n end w e z h i b c m p q = absurd (z (sym (unfold root_count in e)))
first s at n (node x (value d v) ks rest) w e z h i b c m p q =
    let u = seen s at x d v ks rest w h i b c m p q in
    first-node s at n x d v ks rest w e i b c m u.id u.basic u.count u.next

-- where siblings stand there is a header
pub no-first : {A : Type 0} (s : List ℕ) (at n : ℕ) (f : Forest Value) → Row s at f → root_count f ≡ n → (n ≡ 0 → ⊥) → (h : Option Head) → h ≡ head_at s at
    → h ≡ None → A
no-first s at n end w e z h p q = absurd (z (sym (unfold root_count in e)))
no-first s at n (node x (value d v) ks rest) w e z h p q = unseen s at x d v ks rest w h p q

-- A row that stands at an equal position.
pub row_moved : (s : List ℕ) (e at : ℕ) (f : Forest Value) → e ≡ at → Row s at f → Row s e f
row_moved s e at f q w = subst (λ (z : ℕ). Row s z f) (sym q) w

-- A tree that stands somewhere keeps to the limits.
pub root-good : (s : List ℕ) (at i : ℕ) (t : Tree Value) → Root s at i t → WellFormedTree session_levels session_nodes t
root-good s at i t w =
    let g = of-good (children t) session_levels 0 w.good in
    record { root = w.proper; sound = g.sound; rising = g.rising; shallow = g.shallow; few = w.small }
