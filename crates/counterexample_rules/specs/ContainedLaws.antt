-- What is contained has no more nodes, with as many no higher bytes, and no other children.
use Rattle.std.specs.Prelude.{◌≡◌, refl, List, [], ◌∷◌, ◌++◌, ◌⊎◌, ℕ, zero, suc, ◌+◌, ◌/◌, ◌%◌, ◌<◌, ◌≤◌, length}
use Rattle.std.proofs.Common.{sym, ap, subst, ◌∙◌, inl, inr, arith}
use Rattle.tree_forest.specs.Compare.{Compare, lt, eq, gt, compare}
use Rattle.tree_forest.specs.Forest.{Forest, end, node, Tree, tree, Lookup, absent, present, find, find_by, Above, Rising, measure, nodes}
use Rattle.tree_forest.specs.ForestLaws.{find-eq, find-lt, find-gt}
use Rattle.scalar.specs.Value.{Value, value}
use Rattle.tree.specs.Encode.{root_count, encode, rooted}
use Rattle.counterexample_rules.specs.Order.{Lower, fewer, as_many}
use Rattle.counterexample_rules.specs.OrderLaws.{AtMost, same, less, next, most-append, most-lower}
use Rattle.counterexample_rules.specs.Contained.{ValueAtMost, Contained, nothing, without, with}

pub contained-nodes : {c f : Forest Value} → Contained c f → nodes c ≤ nodes f
unfolding measure
contained-nodes nothing = omega arith
contained-nodes (without p) = omega (arith, contained-nodes p)
contained-nodes (with v p q) = omega (arith, contained-nodes p, contained-nodes q)

-- With as many nodes nothing is left out.
pub contained-count : {c f : Forest Value} → Contained c f → nodes c ≡ nodes f → root_count c ≡ root_count f
unfolding measure root_count
contained-count nothing e = refl
contained-count (without p) e = absurd (omega (arith, contained-nodes p))
contained-count (with v p q) e = ap suc (contained-count q (omega (arith, contained-nodes p, contained-nodes q)))

value-bytes : {v w a b : List ℕ} → ValueAtMost v w → AtMost a b → AtMost (length v ∷ (v ++ a)) (length w ∷ (w ++ b))
value-bytes (inl h) q = less h
value-bytes {v} {w} {a} {b} (inr h) q = subst (λ (z : ℕ). AtMost (length v ∷ (v ++ a)) (z ∷ (w ++ b))) h.0 (next (most-append h.1 q))

pub contained-bytes : {c f : Forest Value} → Contained c f → nodes c ≡ nodes f → AtMost (encode c) (encode f)
unfolding measure encode
contained-bytes nothing e = same
contained-bytes (without p) e = absurd (omega (arith, contained-nodes p))
contained-bytes (with {i} {b} {v} {w} {k} {l} {r} {s} x p q) e =
    let ek : nodes k ≡ nodes l = omega (arith, contained-nodes p, contained-nodes q) in
    let er : nodes r ≡ nodes s = omega (arith, contained-nodes p, contained-nodes q) in
    let tail = value-bytes x (most-append (contained-bytes p ek) (contained-bytes q er)) in
    subst (λ (z : ℕ). AtMost (encode (node i (value b v) k r)) (i % 256 ∷ i / 256 ∷ b ∷ z ∷ length w ∷ (w ++ (encode l ++ encode s))))
    (contained-count p ek)
    (next (next (next (next tail))))

pub nothing_above : (x i : ℕ) (r : Forest Value) → Above i r → x ≤ i → find x r ≡ absent
unfolding find
nothing_above x i end h l = refl
nothing_above x i (node j a k r) h l = find-lt (compare x j) (omega arith) (tree a k) (find x r)

not-absent : {A : Type 0} {t : Tree Value} → present t ≡ absent → A
not-absent e = let z : ◌≡◌ {A = ℕ} 0 1 = cc in absurd (omega arith)

-- A child that is missing in the one is missing in what it contains.
pub contained-absent : {c f : Forest Value} (x : ℕ) → Contained c f → Rising f → find x f ≡ absent → find x c ≡ absent
unfolding find Rising
contained-absent x nothing h e = refl
contained-absent x (without {i} {a} {c} {k} {r} p) h e = go (compare x i) (contained-absent x p h.2)
  where
    go : Compare x i → (find x r ≡ absent → find x c ≡ absent) → find x c ≡ absent
    go (lt l) ih = ih (nothing_above x i r h.0 (omega arith))
    go (eq l) ih = not-absent (sym (find-eq (compare x i) l (tree a k) (find x r)) ∙ e)
    go (gt l) ih = ih (sym (find-gt (compare x i) l (tree a k) (find x r)) ∙ e)
contained-absent x (with {i} {b} {v} {w} {k} {l} {r} {s} y p q) h e = go (compare x i) (contained-absent x q h.2)
  where
    go : Compare x i → (find x s ≡ absent → find x r ≡ absent) → find x (node i (value b v) k r) ≡ absent
    go (lt d) ih = find-lt (compare x i) d (tree (value b v) k) (find x r)
    go (eq d) ih = not-absent (sym (find-eq (compare x i) d (tree (value b w) l) (find x s)) ∙ e)
    go (gt d) ih =
        find-gt (compare x i) d (tree (value b v) k) (find x r)
        ∙ ih (sym (find-gt (compare x i) d (tree (value b w) l) (find x s)) ∙ e)

-- What a message is lower than, a message contained in it is lower than.
pub contained-lower : {b : ℕ} {v w : List ℕ} {c f : Forest Value} {n : Tree Value} → ValueAtMost v w → Contained c f → Lower (tree (value b w) f) n
    → Lower (tree (value b v) c) n
unfolding measure
contained-lower {b} {v} {w} {c} {f} {n} x p (fewer h) = fewer (omega (arith, contained-nodes p))
contained-lower {b} {v} {w} {c} {f} {n} x p (as_many e l) = go (compare (nodes c) (nodes f))
  where
    root : Contained (rooted (tree (value b v) c)) (rooted (tree (value b w) f))
    root = with x p nothing

    go : Compare (nodes c) (nodes f) → Lower (tree (value b v) c) n
    go (lt h) = fewer (omega arith)
    go (gt h) = absurd (omega (arith, contained-nodes p))
    go (eq h) = as_many (omega arith) (most-lower (contained-bytes root (omega arith)) l)
