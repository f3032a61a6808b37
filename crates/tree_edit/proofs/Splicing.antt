-- Splicing the bytes of a tree as `plan_of` says gives the bytes of the changed tree.
use mathlib.Core.Path.{◌≡◌, refl, ap, sym, ◌∙◌}
use mathlib.Core.List.{List, [], ◌∷◌, ◌++◌, append_assoc, append-nil}
use mathlib.Core.Bool.{Bool, true, false}
use Prim.Native.Nat.{ℕ, suc, ◌+◌, ◌-◌, ◌/◌, ◌%◌, ◌≤◌, ◌<◌}
use native.Mathlib.Nat.{add-zero}
use native.Mathlib.Decide.{dec_lt}
use native.Mathlib.Omega.{arith}
use native.Mathlib.Numerals.{add-one}
use lib.ListN.{length, get_or, take, drop, set, length-append, get_or-append, drop_of_length-le}
use lib.Seq.{drop-cons, drop-append_seam, take_at, drop_at, set_at, get_or_at, set-append_left, set-get_or, take-append-add, drop-append-add}
use lib.Dec.{eqb}
use Rattle.tree_forest.specs.Compare.{Compare, lt, eq, gt, compare}
use Rattle.tree_forest.specs.Forest.{Forest, end, node, Tree, tree, node_of, Lookup, absent, present, find}
use Rattle.tree_forest.specs.Path.{path, read, write, write_steps}
use Rattle.scalar.specs.Value.{Value, value}
use Rattle.basics.specs.Choice.{pick}
use Rattle.tree.specs.Encode.{root_count, encode}
use Rattle.tree.specs.EncodeLaws.{encode-node, split-node}
use Rattle.tree.specs.Ids.{steps}
use Rattle.tree_edit.specs.ForestWrite.{read_none, read-gap, read-on, read-hit, read-deep, fresh_steps, fresh-more, write-end, write-gap, write-on, write-hit, write-deep}
use Rattle.tree_edit.specs.Plan.{plan_of, body, prefix, spliced}
use Rattle.tree_edit.specs.declared.Plan.TheVariants.{Insert, Replace}
use Rattle.tree_edit.proofs.Locating.{plan-gap, plan-on, plan-hit, plan-deep}

-- the steps i, is are those of the path from k on
abbrev pub Way : List ℕ → ℕ → ℕ → List ℕ → Type 0
Way ids k i is = (get_or ids k 0 ≡ i) × (steps (drop (k + 1) ids) ≡ is)

pub steps-cons : (ids : List ℕ) (n y : ℕ) (ys : List ℕ) → steps (drop n ids) ≡ y ∷ ys → Way ids n y ys
unfolding steps
steps-cons ids n y ys e = by (dec_lt n (length ids))
  where
    one : (t : Bool) (x : ℕ) (l : List ℕ) → pick t [] (x ∷ l) ≡ y ∷ ys → (x ≡ y) × (l ≡ ys)
    one true x l q = (cc, cc)
    one false x l q = (cc, cc)

    by : Dec (n < length ids) → Way ids n y ys
    by (yes p) =
        let c : drop n ids ≡ get_or ids n 0 ∷ drop (n + 1) ids = rw (add-one n) (drop-cons ids n 0 p) in
        one (eqb (get_or ids n 0) 0) (get_or ids n 0) (steps (drop (n + 1) ids)) (sym (ap steps c) ∙ e)
    by (no p) =
        let q : length ids ≤ n = omega arith in
        let z : [] ≡ y ∷ ys = sym (ap steps (drop_of_length-le ids q)) ∙ e in
        (cc, cc)

-- a node by its body
pub count_of : (i : ℕ) (t : Tree Value) (rest : Forest Value) → root_count (node_of i t rest) ≡ suc (root_count rest)
unfolding root_count
count_of i (tree a ks) rest = refl

pub node-body : (i : ℕ) (t : Tree Value) (rest : Forest Value) (r : List ℕ) → encode (node_of i t rest) ++ r ≡ i % 256 ∷ i / 256 ∷ (body t ++ (encode rest ++ r))
unfolding encode
node-body i (tree (value b v) ks) rest r = simp append_assoc

-- d more in the byte at c
abbrev lift : ℕ → ℕ → List ℕ → List ℕ
lift c d l = set l c (get_or l c 0 + d)

lift-zero : (c : ℕ) (l : List ℕ) → lift c 0 l ≡ l
lift-zero c l = rw (add-zero (get_or l c 0)) (set-get_or l c 0)

lift-left : (c d : ℕ) (p q : List ℕ) → c < length p → lift c d (p ++ q) ≡ lift c d p ++ q
lift-left c d p q h = rw (get_or-append p q 0 c h) (set-append_left p q c (get_or p c 0 + d) h)

-- the header's count byte
lift-header : (pre w : List ℕ) (at a b c n d : ℕ) → length pre ≡ at → lift (at + 3) d (pre ++ (a ∷ b ∷ c ∷ n ∷ w)) ≡ pre ++ (a ∷ b ∷ c ∷ (n + d) ∷ w)
lift-header pre w at a b c n d h =
    let p = pre ++ (a ∷ b ∷ c ∷ []) in
    let len : length p ≡ at + 3 = length-append pre (a ∷ b ∷ c ∷ []) ∙ ap (λ (x : ℕ). x + 3) h in
    let e : pre ++ (a ∷ b ∷ c ∷ n ∷ w) ≡ p ++ (n ∷ w) = simp append_assoc in
    let e' : pre ++ (a ∷ b ∷ c ∷ (n + d) ∷ w) ≡ p ++ ((n + d) ∷ w) = simp append_assoc in
    rw (e, e', get_or_at p n w 0 (at + 3) len) (set_at p n w (n + d) (at + 3) len)

-- new nodes
encode-fresh : (m : Value) (g : Lookup Value → Tree Value) (is : List ℕ) (i : ℕ) (rest : Forest Value) → encode (fresh_steps m g i is rest) ≡ prefix m i is ++ (body (g absent) ++ encode rest)
unfolding encode prefix root_count write_steps
encode-fresh (value b v) g [] i rest = sym (append-nil _) ∙ node-body i (g absent) rest [] ∙ simp append-nil
encode-fresh (value b v) g (j ∷ js) i rest =
    ap encode (fresh-more (value b v) g i j js rest)
    ∙ rw (count_of j (write_steps (value b v) js g absent) end, encode-fresh (value b v) g js j end) (simp (append-nil, append_assoc))

pub read-end : (i : ℕ) (is : List ℕ) → read {A = Value} (path i is) end ≡ absent
unfolding find
read-end i is = read_none is

pub plan-end : (k i : ℕ) (is : List ℕ) (up at : ℕ) → plan_of k i is end up at ≡ Insert up at k
unfolding plan_of
plan-end k i is up at = refl

module _ (m : Value) (g : Lookup Value → Tree Value) where
  -- a change adds one sibling or none
  count-node : (i : ℕ) (is : List ℕ) (j : ℕ) (a : Value) (ls rest : Forest Value) → root_count rest ≤ root_count (write m (path i is) g rest) → Compare i j →
      root_count (node j a ls rest) ≤ root_count (write m (path i is) g (node j a ls rest))
  unfolding root_count
  count-node i is j a ls rest ih (lt l) = rw (write-gap m g i is j a ls rest l, count_of i (write_steps m is g absent) (node j a ls rest)) (omega arith)
  count-node i is j a ls rest ih (gt l) = rw (write-on m g i is j a ls rest l) (omega arith)
  count-node i [] j a ls rest ih (eq e) = rw (e, write-hit m g j a ls rest, count_of j (g (present (tree a ls))) rest) (omega arith)
  count-node i (x ∷ xs) j a ls rest ih (eq e) = rw (e, write-deep m g j x xs a ls rest) (omega arith)

  count-write : (f : Forest Value) (i : ℕ) (is : List ℕ) → root_count f ≤ root_count (write m (path i is) g f)
  count-write end i is = unfold root_count in omega arith
  count-write (node j a ls rest) i is = count-node i is j a ls rest (count-write rest i is) (compare i j)

  module _ (all : List ℕ) where
    abbrev Right : Forest Value → Type 0
    Right f = (i : ℕ) (is : List ℕ) (k up at : ℕ) (pre post : List ℕ) → Way all k i is → length pre ≡ at → up + 3 < at →
        spliced m all (body (g (read (path i is) f))) (plan_of k i is f up at) (pre ++ (encode f ++ post))
        ≡ lift (up + 3) (root_count (write m (path i is) g f) - root_count f) pre ++ (encode (write m (path i is) g f) ++ post)

    gap-bytes : (f : Forest Value) (i : ℕ) (is : List ℕ) (k up at : ℕ) (pre post : List ℕ) → Way all k i is → length pre ≡ at → up + 3 < at →
        spliced m all (body (g absent)) (Insert up at k) (pre ++ (encode f ++ post))
        ≡ lift (up + 3) (root_count (fresh_steps m g i is f) - root_count f) pre ++ (encode (fresh_steps m g i is f) ++ post)
    unfolding spliced
    gap-bytes f i is k up at pre post e h l =
        let one : suc (root_count f) - root_count f ≡ 1 = omega arith in
        rw (
          take_at pre (encode f ++ post) at h,
          drop_at pre (encode f ++ post) at h,
          get_or-append pre (encode f ++ post) 0 (up + 3) (omega arith),
          e.0,
          e.1,
          count_of i (write_steps m is g absent) f,
          one,
          encode-fresh m g is i f,
        ) (simp append_assoc)

    on-bytes : (j c : ℕ) (w : List ℕ) (ls rest : Forest Value) → Right rest → (i : ℕ) (is : List ℕ) (k up at : ℕ) (pre post : List ℕ) → Way all k i is → length pre ≡ at → up + 3 < at →
        spliced m all (body (g (read (path i is) rest))) (plan_of k i is rest up (at + length (encode (node j (value c w) ls end)))) (pre ++ (encode (node j (value c w) ls rest) ++ post))
        ≡ lift (up + 3) (root_count (node j (value c w) ls (write m (path i is) g rest)) - root_count (node j (value c w) ls rest)) pre ++ (encode (node j (value c w) ls (write m (path i is) g rest)) ++ post)
    unfolding root_count
    on-bytes j c w ls rest ih i is k up at pre post e h l =
        let x = encode (node j (value c w) ls end) in
        let new = write m (path i is) g rest in
        let len : length (pre ++ x) ≡ at + length x = length-append pre x ∙ ap (λ (n : ℕ). n + length x) h in
        let r = ih i is k up (at + length x) (pre ++ x) post e len (omega arith) in
        let d : suc (root_count new) - suc (root_count rest) ≡ root_count new - root_count rest = omega arith in
        rw (split-node j c w ls rest post, split-node j c w ls new post, d, ← append_assoc pre x (encode rest ++ post))
        (r ∙ rw (lift-left (up + 3) (root_count new - root_count rest) pre x (omega arith)) (simp append_assoc))

    hit-bytes : (i c : ℕ) (w : List ℕ) (ls rest : Forest Value) (t : Tree Value) (up at mid : ℕ) (pre post : List ℕ) → length pre ≡ at →
        spliced m all (body t) (Replace at mid (at + length (encode (node i (value c w) ls end)))) (pre ++ (encode (node i (value c w) ls rest) ++ post))
        ≡ lift (up + 3) (root_count (node_of i t rest) - root_count (node i (value c w) ls rest)) pre ++ (encode (node_of i t rest) ++ post)
    unfolding spliced root_count
    hit-bytes i c w ls rest t up at mid pre post h =
        let x = encode (node i (value c w) ls end) in
        let y = encode (node i (value c w) ls rest) ++ post in
        let none : suc (root_count rest) - suc (root_count rest) ≡ 0 = omega arith in
        let tk : take (at + 2) (pre ++ y) ≡ pre ++ (i % 256 ∷ i / 256 ∷ []) = rw (← h) (take-append-add pre y 2 ∙ ap (λ (l : List ℕ). pre ++ take 2 l) (encode-node i c w ls rest post)) in
        let dr : drop (at + length x) (pre ++ y) ≡ encode rest ++ post = rw (← h) (drop-append-add pre y (length x) ∙ rw (split-node i c w ls rest post) (drop-append_seam x (encode rest ++ post))) in
        rw (tk, dr, count_of i t rest, none, lift-zero (up + 3) pre, node-body i t rest post) (append_assoc pre (i % 256 ∷ i / 256 ∷ []) (body t ++ (encode rest ++ post)))

    deep-bytes : (i c : ℕ) (w : List ℕ) (ls rest : Forest Value) → Right ls → (x : ℕ) (xs : List ℕ) (k up at : ℕ) (pre post : List ℕ) → Way all k i (x ∷ xs) → length pre ≡ at →
        spliced m all (body (g (read (path x xs) ls))) (plan_of (k + 1) x xs ls at (at + 5 + length w)) (pre ++ (encode (node i (value c w) ls rest) ++ post))
        ≡ lift (up + 3) (root_count (node i (value c w) (write m (path x xs) g ls) rest) - root_count (node i (value c w) ls rest)) pre ++ (encode (node i (value c w) (write m (path x xs) g ls) rest) ++ post)
    unfolding root_count
    deep-bytes i c w ls rest ih x xs k up at pre post e h =
        let new = write m (path x xs) g ls in
        let p = pre ++ (i % 256 ∷ i / 256 ∷ c ∷ root_count ls ∷ length w ∷ w) in
        let len : length p ≡ at + 5 + length w = length-append pre (i % 256 ∷ i / 256 ∷ c ∷ root_count ls ∷ length w ∷ w) ∙ omega arith in
        let e1 : Way all (k + 1) x xs = steps-cons all (k + 1) x xs e.1 in
        let r = ih x xs (k + 1) at (at + 5 + length w) p (encode rest ++ post) e1 len (omega arith) in
        let none : suc (root_count rest) - suc (root_count rest) ≡ 0 = omega arith in
        let sum : root_count ls + (root_count new - root_count ls) ≡ root_count new = omega (arith, count-write ls x xs) in
        let s1 : pre ++ (encode (node i (value c w) ls rest) ++ post) ≡ p ++ (encode ls ++ (encode rest ++ post)) = rw (encode-node i c w ls rest post) (simp append_assoc) in
        let s2 : pre ++ (encode (node i (value c w) new rest) ++ post) ≡ (pre ++ (i % 256 ∷ i / 256 ∷ c ∷ root_count new ∷ length w ∷ w)) ++ (encode new ++ (encode rest ++ post)) = rw (encode-node i c w new rest post) (simp append_assoc) in
        rw (none, lift-zero (up + 3) pre, s1, s2)
        (r ∙ rw (lift-header pre (length w ∷ w) at (i % 256) (i / 256) c (root_count ls) (root_count new - root_count ls) h, sum) refl)

    node-right : (j c : ℕ) (w : List ℕ) (ls rest : Forest Value) → Right ls → Right rest → (i : ℕ) (is : List ℕ) → Compare i j → (k up at : ℕ) (pre post : List ℕ) → Way all k i is → length pre ≡ at → up + 3 < at →
        spliced m all (body (g (read (path i is) (node j (value c w) ls rest)))) (plan_of k i is (node j (value c w) ls rest) up at) (pre ++ (encode (node j (value c w) ls rest) ++ post))
        ≡ lift (up + 3) (root_count (write m (path i is) g (node j (value c w) ls rest)) - root_count (node j (value c w) ls rest)) pre ++ (encode (write m (path i is) g (node j (value c w) ls rest)) ++ post)
    node-right j c w ls rest hl hr i is (lt l) k up at pre post e h u =
        rw (read-gap i is j (value c w) ls rest l, plan-gap k i is up at j c w ls rest l, write-gap m g i is j (value c w) ls rest l) (gap-bytes (node j (value c w) ls rest) i is k up at pre post e h u)
    node-right j c w ls rest hl hr i is (gt l) k up at pre post e h u =
        rw (read-on i is j (value c w) ls rest l, plan-on k i is up at j c w ls rest l, write-on m g i is j (value c w) ls rest l) (on-bytes j c w ls rest hr i is k up at pre post e h u)
    node-right j c w ls rest hl hr i [] (eq q) k up at pre post e h u =
        rw (q, read-hit j (value c w) ls rest, plan-hit k j up at c w ls rest, write-hit m g j (value c w) ls rest) (hit-bytes j c w ls rest (g (present (tree (value c w) ls))) up at (at + 5 + length w) pre post h)
    node-right j c w ls rest hl hr i (x ∷ xs) (eq q) k up at pre post e h u =
        rw (q, read-deep j x xs (value c w) ls rest, plan-deep k j x xs up at c w ls rest, write-deep m g j x xs (value c w) ls rest) (deep-bytes j c w ls rest hl x xs k up at pre post (rw q at e) h)

    -- splicing is right in any surroundings
    pub write_bytes : (f : Forest Value) → Right f
    write_bytes end i is k up at pre post e h u = rw (read-end i is, plan-end k i is up at, write-end m g i is) (gap-bytes end i is k up at pre post e h u)
    write_bytes (node j (value c w) ls rest) i is k up at pre post e h u =
        node-right j c w ls rest (write_bytes ls) (write_bytes rest) i is (compare i j) k up at pre post e h u

-- the bytes before the children of a tree's root
abbrev pub front : ℕ → List ℕ → Forest Value → List ℕ
front c w f = 0 ∷ 0 ∷ c ∷ root_count f ∷ length w ∷ w

pub front-encode : (c : ℕ) (w : List ℕ) (f : Forest Value) → encode (node 0 (value c w) f end) ≡ front c w f ++ (encode f ++ [])
unfolding encode
front-encode c w f = simp append-nil

-- splicing a whole tree
pub edit-root : (m : Value) (g : Lookup Value → Tree Value) (ids s : List ℕ) (c : ℕ) (w : List ℕ) (f : Forest Value) → s ≡ encode (node 0 (value c w) f end) →
    spliced m ids (body (g (read (path (get_or ids 0 0) (steps (drop 1 ids))) f))) (plan_of 0 (get_or ids 0 0) (steps (drop 1 ids)) f 0 (5 + length w)) s
    ≡ encode (node 0 (value c w) (write m (path (get_or ids 0 0) (steps (drop 1 ids))) g f) end)
edit-root m g ids s c w f e =
    let i = get_or ids 0 0 in
    let is = steps (drop 1 ids) in
    let new = write m (path i is) g f in
    let r = write_bytes m g ids f i is 0 0 (5 + length w) (front c w f) [] (refl, refl) (omega arith) (omega arith) in
    let sum : root_count f + (root_count new - root_count f) ≡ root_count new = omega (arith, count-write m g f i is) in
    rw (e ∙ front-encode c w f) (r ∙ ap (λ (n : ℕ). 0 ∷ 0 ∷ c ∷ n ∷ length w ∷ (w ++ (encode new ++ []))) sum ∙ sym (front-encode c w new))
