-- Passing over a tree node by node: the trees that are still to come, side by side, and where they end.
use mathlib.Core.Path.{◌≡◌, refl, ap, sym, ◌∙◌}
use mathlib.Core.List.{List, ◌∷◌, ◌++◌, append_assoc}
use Prim.Native.Nat.{ℕ, suc, ◌+◌, ◌-◌, ◌%◌, ◌/◌, ◌≤◌, ◌<◌}
use native.Mathlib.Omega.{arith}
use lib.ListN.{length, get_or, drop, length-drop, length-append}
use lib.Seq.{get_or-drop, drop-append_seam}
use Rattle.tree_forest.specs.Forest.{Forest, end, node, Tree, tree, node_of, measure, nodes}
use Rattle.scalar.specs.Value.{Value, value}
use Rattle.tree.specs.Encode.{root_count, encode}
use Rattle.tree.specs.EncodeLaws.{encode-node, length-node, count-nodes, later}
use Rattle.tree.specs.Standing.{Root, Ended}

-- The trees of f and then those of g.
unfoldable joined : Forest Value → Forest Value → Forest Value
joined end g = g
joined (node i a ks r) g = node i a ks (joined r g)

encode-joined : (f g : Forest Value) → encode (joined f g) ≡ encode f ++ encode g
unfolding encode joined
encode-joined end g = refl
encode-joined (node i (value b v) ks r) g = rw (encode-joined r g) (simp append_assoc)

count-joined : (f g : Forest Value) → root_count (joined f g) ≡ root_count f + root_count g
unfolding root_count joined
count-joined end g = omega arith
count-joined (node i a ks r) g = omega (arith, count-joined r g)

nodes-joined : (f g : Forest Value) → nodes (joined f g) ≡ nodes f + nodes g
unfolding measure joined
nodes-joined end g = omega arith
nodes-joined (node i a ks r) g = omega (arith, nodes-joined r g)

-- n trees stand at p, and end at e.
pub record Owed (s : List ℕ) (p n e : ℕ) : Type 0 where
  pub forest : Forest Value
  pub after : List ℕ
  pub bytes : drop p s ≡ encode forest ++ after
  pub many : root_count forest ≡ n
  pub few : nodes forest ≤ 49
  pub ends : p + length (encode forest) ≡ e

-- Of the tree that stands at `at`, if one does, n trees are still to come from p on.
pub record Passing (s : List ℕ) (at p n : ℕ) : Type 0 where
  pub tells : (i : ℕ) (t : Tree Value) → Root s at i t → Owed s p n (at + length (encode (node_of i t end)))

pub pass-start : (s : List ℕ) (at : ℕ) → Passing s at at 1
unfolding root_count measure
pass-start s at = record { tells = go }
  where
    go : (i : ℕ) (t : Tree Value) → Root s at i t → Owed s at 1 (at + length (encode (node_of i t end)))
    go i (tree a ks) w = record { forest = node i a ks end; after = w.after; bytes = w.bytes; many = refl; few = omega (arith, w.small); ends = refl }

-- The header of the first of them.
record First (s : List ℕ) (p n e : ℕ) : Type 0 where
  inside : p + 5 + get_or s (p + 4) 0 ≤ length s
  rest : Owed s (p + 5 + get_or s (p + 4) 0) (n - 1 + get_or s (p + 3) 0) e

first : (s : List ℕ) (p n e : ℕ) → 0 < n → Owed s p n e → First s p n e
unfolding root_count measure
first s p n e h w = go w.forest w.bytes w.many w.few w.ends
  where
    go : (f : Forest Value) → drop p s ≡ encode f ++ w.after → root_count f ≡ n → nodes f ≤ 49 → p + length (encode f) ≡ e → First s p n e
    go end b m k x = absurd (omega arith)
    go (node i (value d v) ks r) b m k x =
        let l : List ℕ = i % 256 ∷ i / 256 ∷ d ∷ root_count ks ∷ length v ∷ (v ++ (encode ks ++ (encode r ++ w.after))) in
        let all : drop p s ≡ l = b ∙ encode-node i d v ks r w.after in
        let b3 : get_or s (p + 3) 0 ≡ root_count ks = sym (get_or-drop p s 3 0) ∙ ap (λ (z : List ℕ). get_or z 3 0) all in
        let b4 : get_or s (p + 4) 0 ≡ length v = sym (get_or-drop p s 4 0) ∙ ap (λ (z : List ℕ). get_or z 4 0) all in
        let b5 : drop (p + 5) s ≡ v ++ (encode ks ++ (encode r ++ w.after)) = later s l p 5 all in
        let af : drop (p + 5 + length v) s ≡ encode ks ++ (encode r ++ w.after) =
        later s (v ++ (encode ks ++ (encode r ++ w.after))) (p + 5) (length v) b5 ∙ drop-append_seam v (encode ks ++ (encode r ++ w.after)) in
        let len : length s - p ≡ suc (suc (suc (suc (suc (length (v ++ (encode ks ++ (encode r ++ w.after)))))))) = sym (length-drop p s) ∙ ap length all in
        let len2 : length (v ++ (encode ks ++ (encode r ++ w.after))) ≡ length v + length (encode ks ++ (encode r ++ w.after)) = length-append v _ in
        let ej : encode (joined ks r) ≡ encode ks ++ encode r = encode-joined ks r in
        let lj : length (encode (joined ks r)) ≡ length (encode ks) + length (encode r) = ap length ej ∙ length-append (encode ks) (encode r) in
        let ln = length-node i d v ks r in
        record {
          inside = omega arith;
          rest = record {
            forest = joined ks r;
            after = w.after;
            bytes = rw (b4, ej) (af ∙ sym (append_assoc (encode ks) (encode r) w.after));
            many = omega (arith, count-joined ks r);
            few = omega (arith, nodes-joined ks r);
            ends = omega (arith, lj, ln, b4);
          };
        }

module _ (s : List ℕ) (at p n : ℕ) (w : Passing s at p n) where
  pub pass-done : n ≤ 0 → Ended s at p
  unfolding root_count encode
  pass-done h = record { ends = λ i t r. go (w.tells i t r).forest (w.tells i t r).many (w.tells i t r).ends }
    where
      go : {e : ℕ} (f : Forest Value) → root_count f ≡ n → p + length (encode f) ≡ e → p ≡ e
      go end m x = omega arith
      go (node i a ks r) m x = absurd (omega arith)

  pub pass-many : (e : ℕ) → 255 < n → Ended s at e
  pass-many e h = record { ends = λ i t r. absurd (omega (arith, (w.tells i t r).many, (w.tells i t r).few, count-nodes (w.tells i t r).forest)) }

  module _ (h : 0 < n) where
    pub pass-empty : (e : ℕ) → length s < 5 → Ended s at e
    pass-empty e k = record { ends = λ i t r. absurd (omega (arith, (first s p n _ h (w.tells i t r)).inside)) }

    pub pass-short : (e : ℕ) → length s - 5 < p → Ended s at e
    pass-short e k = record { ends = λ i t r. absurd (omega (arith, (first s p n _ h (w.tells i t r)).inside)) }

    pub pass-cut : (e len : ℕ) → len ≡ get_or s (p + 4) 0 → length s - 5 - p < len → Ended s at e
    pass-cut e len q k = record { ends = λ i t r. absurd (omega (arith, (first s p n _ h (w.tells i t r)).inside)) }

    pub pass-next : (len c : ℕ) → len ≡ get_or s (p + 4) 0 → c ≡ get_or s (p + 3) 0 → Passing s at (p + 5 + len) (n - 1 + c)
    pass-next len c q k = record { tells = λ i t r. rw (q, k) (first s p n _ h (w.tells i t r)).rest }

pub ruleset pass-laws = (pass-done, pass-many, pass-empty, pass-short, pass-cut, pass-next)
