-- Laws of subtyping: reflexive, transitive, and the test is the relation (where ids rise strictly).
use Rattle.std.specs.Prelude.{◌≡◌, refl, ℕ, suc, ◌≤◌, ◌<◌, ◌+◌, Bool, true, false, not, ◌&&◌, T, eqb}
use Rattle.std.proofs.Common.{sym, ap, subst, ◌∙◌, eqb→eq}
use native.Mathlib.Omega.{arith}
use Rattle.std.proofs.Math.Dec.{eqb_refl}
use Rattle.basics.specs.TestLaws.{and_i, and_l, and_r, not-intro, not-not}
use Rattle.tree_forest.specs.Compare.{Compare, lt, eq, gt, compare}
use Rattle.tree_forest.specs.Forest.{Forest, end, node, Tree, tree, Lookup, absent, present, find, find_by, set, Above, Rising, RisingTree, measure}
use Rattle.tree_forest.specs.ForestLaws.{find-eq, find-lt, find-gt, find-set-same, find-set-other, Combining}
use Rattle.network_syntax.specs.Syntax.{Mark, mark, Types, MessageType}
use Rattle.check_subtyping.specs.Subtype.{root_basic, root_children, ChildSubtype, in_neither, optional_absent, in_both, Subtypes, Subtype}
use Rattle.check_subtyping.specs.Subtype.{implies, are_subtypes_by, are_subtypes, is_subtype}

-- The children of a child that is in both.
pub child-below : {m n : Bool} {b c : ℕ} {k l : Types} → ChildSubtype (present (tree (mark m b) k)) (present (tree (mark n c) l)) → Subtypes k l
child-below (in_both f p) = record { at = p }

pub absent-not-mandatory : {n : Bool} {b : ℕ} {l : Types} → ChildSubtype absent (present (tree (mark n b) l)) → T n → ⊥
absent-not-mandatory optional_absent t = t

pub optional-absent : {n : Bool} {b : ℕ} {l : Types} → (T n → ⊥) → ChildSubtype absent (present (tree (mark n b) l))
optional-absent {n = true} f = absurd (f tt)
optional-absent {n = false} f = optional_absent

pub child-trans : {x y z : Lookup Mark} → ChildSubtype x y → ChildSubtype y z → ChildSubtype x z
child-trans in_neither q = q
child-trans optional_absent (in_both f p) = optional-absent f
child-trans (in_both f p) (in_both g q) = in_both (λ t. f (g t)) (λ i. child-trans (p i) (q i))

pub subtypes-trans : {F G H : Types} → Subtypes F G → Subtypes G H → Subtypes F H
subtypes-trans p q = record { at = λ i. child-trans (p.at i) (q.at i) }

pub child-cast : {x x2 y y2 : Lookup Mark} → x ≡ x2 → y ≡ y2 → ChildSubtype x y → ChildSubtype x2 y2
child-cast {x} {x2} {y} {y2} p q h = subst (λ (z : Lookup Mark). ChildSubtype x2 z) q (subst (λ (z : Lookup Mark). ChildSubtype z y) p h)

pub child-refl : (F : Types) (i : ℕ) → ChildSubtype (find i F) (find i F)
unfolding find
child-refl end i = in_neither
child-refl (node j (mark m b) k r) i = go (compare i j) (λ x. child-refl k x) (child-refl r i)
  where
    go : (c : Compare i j) → ((x : ℕ) → ChildSubtype (find x k) (find x k)) → ChildSubtype (find i r) (find i r)
        → ChildSubtype (find_by c (tree (mark m b) k) (find i r)) (find_by c (tree (mark m b) k) (find i r))
    go (lt h) hk hr = in_neither
    go (eq h) hk hr = in_both (λ t. t) hk
    go (gt h) hk hr = hr

pub subtypes-refl : (F : Types) → Subtypes F F
subtypes-refl F = record { at = child-refl F }

pub implies-elim : (n m : Bool) → T (implies n m) → T n → T m
implies-elim true m h t = h
implies-elim false m h t = absurd t

pub implies-intro : (n m : Bool) → (T n → T m) → T (implies n m)
implies-intro true m f = f tt
implies-intro false m f = tt

pub in-both : {m n : Bool} {c b : ℕ} {k l : Types} → c ≡ b → (T n → T m) → ((x : ℕ) → ChildSubtype (find x k) (find x l))
    → ChildSubtype (present (tree (mark m c) k)) (present (tree (mark n b) l))
in-both {m} {n} {c} {b} {k} {l} e f p = subst (λ (x : ℕ). ChildSubtype (present (tree (mark m c) k)) (present (tree (mark n x) l))) e (in_both f p)

-- The test is right about every id; the order of ids does not matter here.
pub sound-at : (F G : Types) → T (are_subtypes F G) → (x : ℕ) → ChildSubtype (find x F) (find x G)
unfolding find are_subtypes
sound-at end end t x = in_neither
sound-at (node j a l s) end t x = absurd t
sound-at end (node i (mark n b) k r) t x = go (compare x i) (sound-at end r (and_r (not n) (are_subtypes end r) t) x)
  where
    go : (c : Compare x i) → ChildSubtype absent (find x r) → ChildSubtype absent (find_by c (tree (mark n b) k) (find x r))
    go (lt h) ih = in_neither
    go (eq h) ih = optional-absent (not-not n (and_l (not n) (are_subtypes end r) t))
    go (gt h) ih = ih
sound-at (node j (mark m c) l s) (node i (mark n b) k r) t x =
    go (compare j i) t (λ u. sound-at l k u) (λ u. sound-at s r u x) (λ u. sound-at (node j (mark m c) l s) r u x)
  where
    F : Types
    F = node j (mark m c) l s

    both : (d : Compare x j) (e : Compare x i) → j ≡ i → T (eqb c b && (implies n m && (are_subtypes l k && are_subtypes s r)))
        → (T (are_subtypes l k) → (y : ℕ) → ChildSubtype (find y l) (find y k)) → (T (are_subtypes s r) → ChildSubtype (find x s) (find x r))
        → ChildSubtype (find_by d (tree (mark m c) l) (find x s)) (find_by e (tree (mark n b) k) (find x r))
    both (lt d) (lt e) q u f g = in_neither
    both (lt d) (eq e) q u f g = absurd (omega arith)
    both (lt d) (gt e) q u f g = absurd (omega arith)
    both (eq d) (lt e) q u f g = absurd (omega arith)
    both (eq d) (eq e) q u f g =
        let u1 = and_r (eqb c b) (implies n m && (are_subtypes l k && are_subtypes s r)) u in
        let u2 = and_r (implies n m) (are_subtypes l k && are_subtypes s r) u1 in
        in-both (eqb→eq c b (and_l (eqb c b) (implies n m && (are_subtypes l k && are_subtypes s r)) u))
        (implies-elim n m (and_l (implies n m) (are_subtypes l k && are_subtypes s r) u1)) ((f (and_l (are_subtypes l k) (are_subtypes s r) u2)))
    both (eq d) (gt e) q u f g = absurd (omega arith)
    both (gt d) (lt e) q u f g = absurd (omega arith)
    both (gt d) (eq e) q u f g = absurd (omega arith)
    both (gt d) (gt e) q u f g =
        g (and_r (are_subtypes l k) (are_subtypes s r)
        (and_r (implies n m) (are_subtypes l k && are_subtypes s r) (and_r (eqb c b) (implies n m && (are_subtypes l k && are_subtypes s r)) u)))

    skip : (e : Compare x i) → i < j → T (not n && are_subtypes F r) → (T (are_subtypes F r) → ChildSubtype (find x F) (find x r))
        → ChildSubtype (find x F) (find_by e (tree (mark n b) k) (find x r))
    skip (lt e) q u g = child-cast (sym (find-lt (compare x j) (omega arith) (tree (mark m c) l) (find x s))) refl in_neither
    skip (eq e) q u g =
        child-cast (sym (find-lt (compare x j) (omega arith) (tree (mark m c) l) (find x s))) refl
        (optional-absent (not-not n (and_l (not n) (are_subtypes F r) u)))
    skip (gt e) q u g = g (and_r (not n) (are_subtypes F r) u)

    go : (d : Compare j i) → T (are_subtypes_by d (eqb c b && (implies n m && (are_subtypes l k && are_subtypes s r))) (not n && are_subtypes F r))
        → (T (are_subtypes l k) → (y : ℕ) → ChildSubtype (find y l) (find y k)) → (T (are_subtypes s r) → ChildSubtype (find x s) (find x r))
        → (T (are_subtypes F r) → ChildSubtype (find x F) (find x r))
        → ChildSubtype (find x F) (find_by (compare x i) (tree (mark n b) k) (find x r))
    go (lt d) u f g h = absurd u
    go (eq d) u f g h = both (compare x j) (compare x i) d u f g
    go (gt d) u f g h = skip (compare x i) d u h

pub subtypes-sound : (F G : Types) → T (are_subtypes F G) → Subtypes F G
subtypes-sound F G t = record { at = sound-at F G t }

-- What a child that is in both gives.
pub child-basics : {m n : Bool} {b c : ℕ} {k l : Types} → ChildSubtype (present (tree (mark m b) k)) (present (tree (mark n c) l)) → b ≡ c
child-basics (in_both f p) = refl

pub child-marks : {m n : Bool} {b c : ℕ} {k l : Types} → ChildSubtype (present (tree (mark m b) k)) (present (tree (mark n c) l)) → T n → T m
child-marks (in_both f p) = f

pub child-absent : {x : Lookup Mark} → ChildSubtype x absent → x ≡ absent
child-absent in_neither = refl

pub not-present-absent : {n : Tree Mark} → ChildSubtype (present n) absent → ⊥
not-present-absent = elim [ ]

pub find-above : (x i : ℕ) (r : Types) → Above i r → x ≤ i → find x r ≡ absent
unfolding find
find-above x i end h l = refl
find-above x i (node j a k r) h l = find-lt (compare x j) (omega arith) (tree a k) (find x r)

-- completeness: present the order of the ids matters
pub complete-at : (F G : Types) → Rising F → Rising G → ((x : ℕ) → ChildSubtype (find x F) (find x G)) → T (are_subtypes F G)
unfolding find are_subtypes Rising
complete-at end end wf wg h = tt
complete-at (node j a l s) end wf wg h = not-present-absent (child-cast (find-eq (compare j j) refl (tree a l) (find j s)) refl (h j))
complete-at end (node i (mark n b) k r) wf wg h =
    and_i (not n) (are_subtypes end r)
    (not-intro n (absent-not-mandatory (child-cast refl (find-eq (compare i i) refl (tree (mark n b) k) (find i r)) (h i))))
    (complete-at end r wf wg.2 (λ x. tail x (compare x i)))
  where
    tail : (x : ℕ) → Compare x i → ChildSubtype absent (find x r)
    tail x (lt c) = child-cast refl (sym (find-above x i r wg.0 (omega arith))) in_neither
    tail x (eq c) = child-cast refl (sym (find-above x i r wg.0 (omega arith))) in_neither
    tail x (gt c) = child-cast refl (find-gt (compare x i) c (tree (mark n b) k) (find x r)) (h x)
complete-at (node j (mark m c) l s) (node i (mark n b) k r) wf wg h =
    go (compare j i) (complete-at l k wf.1 wg.1) (complete-at s r wf.2 wg.2) (complete-at (node j (mark m c) l s) r wf wg.2)
  where
    F : Types
    F = node j (mark m c) l s

    tail_s : (x : ℕ) → j ≡ i → Compare x i → ChildSubtype (find x s) (find x r)
    tail_s x e (lt d) = child-cast (sym (find-above x j s wf.0 (omega arith))) (sym (find-above x i r wg.0 (omega arith))) in_neither
    tail_s x e (eq d) = child-cast (sym (find-above x j s wf.0 (omega arith))) (sym (find-above x i r wg.0 (omega arith))) in_neither
    tail_s x e (gt d) =
        child-cast (find-gt (compare x j) (omega arith) (tree (mark m c) l) (find x s)) (find-gt (compare x i) d (tree (mark n b) k) (find x r)) (h x)

    tail_f : (x : ℕ) → i < j → Compare x i → ChildSubtype (find x F) (find x r)
    tail_f x e (lt d) =
        child-cast (sym (find-lt (compare x j) (omega arith) (tree (mark m c) l) (find x s))) (sym (find-above x i r wg.0 (omega arith))) in_neither
    tail_f x e (eq d) =
        child-cast (sym (find-lt (compare x j) (omega arith) (tree (mark m c) l) (find x s))) (sym (find-above x i r wg.0 (omega arith))) in_neither
    tail_f x e (gt d) = child-cast refl (find-gt (compare x i) d (tree (mark n b) k) (find x r)) (h x)

    at_i : j ≡ i → ChildSubtype (present (tree (mark m c) l)) (present (tree (mark n b) k))
    at_i e = child-cast (find-eq (compare i j) (sym e) (tree (mark m c) l) (find i s)) (find-eq (compare i i) refl (tree (mark n b) k) (find i r))
        (h i)

    go : (d : Compare j i) → (((x : ℕ) → ChildSubtype (find x l) (find x k)) → T (are_subtypes l k))
        → (((x : ℕ) → ChildSubtype (find x s) (find x r)) → T (are_subtypes s r))
        → (((x : ℕ) → ChildSubtype (find x F) (find x r)) → T (are_subtypes F r))
        → T (are_subtypes_by d (eqb c b && (implies n m && (are_subtypes l k && are_subtypes s r))) (not n && are_subtypes F r))
    go (lt d) p q g =
        not-present-absent
        (child-cast (find-eq (compare j j) refl (tree (mark m c) l) (find j s)) (find-lt (compare j i) d (tree (mark n b) k) (find j r)) (h j))
    go (eq d) p q g =
        and_i (eqb c b) (implies n m && (are_subtypes l k && are_subtypes s r)) (subst (λ (y : ℕ). T (eqb c y)) (child-basics (at_i d)) (eqb_refl c))
        (and_i (implies n m) (are_subtypes l k && are_subtypes s r) (implies-intro n m (child-marks (at_i d)))
        (and_i (are_subtypes l k) (are_subtypes s r) (p (child-below (at_i d)).at) (q (λ x. tail_s x d (compare x i)))))
    go (gt d) p q g =
        and_i (not n) (are_subtypes F r)
        (not-intro n
        (absent-not-mandatory
        (child-cast (find-lt (compare i j) d (tree (mark m c) l) (find i s)) (find-eq (compare i i) refl (tree (mark n b) k) (find i r))
        (h i))))
        (g (λ x. tail_f x d (compare x i)))

pub subtypes-complete : (F G : Types) → Rising F → Rising G → Subtypes F G → T (are_subtypes F G)
subtypes-complete F G wf wg h = complete-at F G wf wg h.at

pub subtype-refl : (t : MessageType) → Subtype t t
subtype-refl t = record { basics = refl; children = subtypes-refl (root_children t) }

pub subtype-trans : {t u v : MessageType} → Subtype t u → Subtype u v → Subtype t v
subtype-trans p q = record { basics = p.basics ∙ q.basics; children = subtypes-trans p.children q.children }

-- The test says yes only where T1 ≤ T2.
pub subtype-sound : (t u : MessageType) → T (is_subtype t u) → Subtype t u
subtype-sound (tree (mark m b) k) (tree (mark n c) l) h =
    record {
      basics = eqb→eq b c (and_l (eqb b c) (are_subtypes k l) h);
      children = subtypes-sound k l (and_r (eqb b c) (are_subtypes k l) h);
    }

-- Where T1 ≤ T2 and ids rise, the test says yes.
pub subtype-complete : (t u : MessageType) → RisingTree t → RisingTree u → Subtype t u → T (is_subtype t u)
subtype-complete (tree (mark m b) k) (tree (mark n c) l) wt wu h =
    and_i (eqb b c) (are_subtypes k l) (subst (λ (z : ℕ). T (eqb b z)) h.basics (eqb_refl b))
    (subtypes-complete k l wt wu h.children)

-- Both sides set at the same id.
pub subtypes-set : {F G : Types} (j : ℕ) {x y : MessageType} → Subtypes F G → ChildSubtype (present x) (present y)
    → Subtypes (set j x F) (set j y G)
subtypes-set {F} {G} j {x} {y} h s = record { at = λ i. go i (compare i j) }
  where
    go : (i : ℕ) → Compare i j → ChildSubtype (find i (set j x F)) (find i (set j y G))
    go i (lt c) = child-cast (sym (find-set-other i j x F (λ e. omega arith))) (sym (find-set-other i j y G (λ e. omega arith))) (h.at i)
    go i (gt c) = child-cast (sym (find-set-other i j x F (λ e. omega arith))) (sym (find-set-other i j y G (λ e. omega arith))) (h.at i)
    go i (eq c) =
        subst (λ (z : ℕ). ChildSubtype (find z (set j x F)) (find z (set j y G))) (sym c)
        (child-cast (sym (find-set-same j x F)) (sym (find-set-same j y G)) s)

-- A subtype has no more nodes and no more levels.
module _ (g : ℕ → ℕ → ℕ) (G : Combining g) where
  pub measure-sub : (F Γ : Types) → T (are_subtypes F Γ) → measure g F ≤ measure g Γ
  unfolding are_subtypes measure
  measure-sub end end t = omega arith
  measure-sub (node j a l s) end t = absurd t
  measure-sub end (node i (mark n b) k r) t = omega arith
  measure-sub (node j (mark m c) l s) (node i (mark n b) k r) t =
      go (compare j i) t (measure-sub l k) (measure-sub s r) (measure-sub (node j (mark m c) l s) r)
    where
      F : Types
      F = node j (mark m c) l s

      go : (d : Compare j i) → T (are_subtypes_by d (eqb c b && (implies n m && (are_subtypes l k && are_subtypes s r))) (not n && are_subtypes F r))
          → (T (are_subtypes l k) → measure g l ≤ measure g k) → (T (are_subtypes s r) → measure g s ≤ measure g r)
          → (T (are_subtypes F r) → measure g F ≤ measure g r)
          → measure g F ≤ g (1 + measure g k) (measure g r)
      go (lt d) u p q h = absurd u
      go (eq d) u p q h =
          let v = and_r (implies n m) (are_subtypes l k && are_subtypes s r)
          (and_r (eqb c b) (implies n m && (are_subtypes l k && are_subtypes s r)) u) in
          let x = p (and_l (are_subtypes l k) (are_subtypes s r) v) in
          G.monotone (1 + measure g l) (measure g s) (1 + measure g k) (measure g r) (omega arith) (q (and_r (are_subtypes l k) (are_subtypes s r) v))
      go (gt d) u p q h = let x = h (and_r (not n) (are_subtypes F r) u) in let y = G.inflating (1 + measure g k) (measure g r) in omega arith
