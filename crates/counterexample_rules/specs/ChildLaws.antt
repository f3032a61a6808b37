-- The least siblings with one child of them held, by its id: which number that is, what stands there, and what contains them.
use Rattle.std.specs.Prelude.{◌≡◌, refl, List, Bool, true, false, not, ◌&&◌, ℕ, zero, suc, ◌+◌, ◌-◌, ◌<◌, ◌≤◌, T, eqb}
use Rattle.std.proofs.Common.{sym, ap, subst, ◌∙◌, arith, eqb→eq}
use Rattle.basics.specs.Choice.{pick}
use Rattle.basics.specs.TestLaws.{and_l, and_r, not-not}
use Rattle.tree_forest.specs.Compare.{Compare, lt, eq, gt, compare}
use Rattle.tree_forest.specs.Forest.{Forest, end, node, Tree, tree, Lookup, absent, present, find, find_by, measure, nodes, map_forest}
use Rattle.tree_forest.specs.ForestLaws.{find-eq, find-lt, find-gt}
use Rattle.scalar.specs.Value.{Value, value, basic_of, is_value}
use Rattle.tree.specs.Encode.{Proper, SoundValues}
use Rattle.network_syntax.specs.Syntax.{Mark, mark, Types}
use Rattle.check_subtyping.specs.Subtype.{are_subtypes_by, are_subtypes, implies}
use Rattle.check_subtyping.specs.Own.{own_types}
use Rattle.counterexample_rules.specs.Contained.{ValueAtMost, Contained, nothing, without, with}
use Rattle.counterexample_rules.specs.Breaking.{least_of, holds_child, least_with}
use Rattle.counterexample_rules.specs.LeastLaws.{least_by, least-by, least_zero, past-none, past-held, inside-held, least-most}

abbrev by_order : {A : Type 0} {x i : ℕ} → Compare x i → A → A → A → A
by_order (lt h) a b c = a
by_order (eq h) a b c = b
by_order (gt h) a b c = c

-- The siblings that are mandatory, and the one with the id x, c being its children.
unfoldable pub least_holding : ℕ → Forest Value → Types → Forest Value
least_holding x c end = end
least_holding x c (node i (mark m b) k r) =
    let others = least_holding x c r in
    by_order (compare x i) (least_with 0 (node i (mark m b) k r))
    (node i (least_of b) c (least_with 0 r))
    (pick m (node i (least_of b) (least_with 0 k) others) others)

-- How many nodes stand before the child with the id x.
unfoldable pub before : ℕ → Types → ℕ
before x end = 0
before x (node i a k r) = by_order (compare x i) 0 0 (1 + nodes k + before x r)

no-child : {A : Type 0} {t : Tree Mark} → absent ≡ present t → A
no-child e = let z : ◌≡◌ {A = ℕ} 0 1 = cc in absurd (omega arith)

no_value : {A : Type 0} {t : Tree Value} → absent ≡ present t → A
no_value e = let z : ◌≡◌ {A = ℕ} 0 1 = cc in absurd (omega arith)

-- What stands at x.
pub find-child : (x : ℕ) (c : Forest Value) (K : Types) (m : Bool) (b : ℕ) (k : Types) → find x K ≡ present (tree (mark m b) k)
    → find x (least_holding x c K) ≡ present (tree (least_of b) c)
unfolding find least_holding
find-child x c end m b k e = no-child e
find-child x c (node i (mark n d) l r) m b k e = go (compare x i) e (find-child x c r m b k)
  where
    go : (o : Compare x i) → find_by o (tree (mark n d) l) (find x r) ≡ present (tree (mark m b) k)
        → (find x r ≡ present (tree (mark m b) k) → find x (least_holding x c r) ≡ present (tree (least_of b) c))
        → find x (by_order o (least_with 0 (node i (mark n d) l r)) (node i (least_of d) c (least_with 0 r))
        (pick n (node i (least_of d) (least_with 0 l) (least_holding x c r)) (least_holding x c r))) ≡ present (tree (least_of b) c)
    go (lt h) e ih = no-child e
    go (eq h) e ih =
        let p : d ≡ b = cc in
        find-eq (compare x i) h (tree (least_of d) c) (find x (least_with 0 r)) ∙ rw p refl
    go (gt h) e ih = on n (ih e)
      where
        on : (t : Bool) → find x (least_holding x c r) ≡ present (tree (least_of b) c)
            → find x (pick t (node i (least_of d) (least_with 0 l) (least_holding x c r)) (least_holding x c r)) ≡ present (tree (least_of b) c)
        on true q = find-gt (compare x i) h (tree (least_of d) (least_with 0 l)) (find x (least_holding x c r)) ∙ q
        on false q = q

-- The number of a node below that child, 0 being the child itself.
pub record Numbered (x j : ℕ) (K k : Types) : Type 0 where
  pub inside : before x K + (1 + j) ≤ nodes K
  pub is : least_with (before x K + (1 + j)) K ≡ least_holding x (least_with j k) K

same-siblings : {i b : ℕ} {c d r s : Forest Value} → c ≡ d → r ≡ s → node i (least_of b) c r ≡ node i (least_of b) d s
same-siblings p q = cc

pub numbered : (x j : ℕ) (K : Types) (m : Bool) (b : ℕ) (k : Types) → find x K ≡ present (tree (mark m b) k) → j ≤ nodes k → Numbered x j K k
unfolding find least_holding before measure
numbered x j end m b k e l = no-child e
numbered x j (node i (mark n d) p r) m b k e l =
    let y = go (compare x i) e (numbered x j r m b k) in record { inside = y.0; is = y.1 }
  where
    rest : ℕ
    rest = before x r

    Goal : Compare x i → Type 0
    Goal o =
        (by_order o 0 0 (1 + nodes p + rest) + (1 + j) ≤ 1 + nodes p + nodes r)
        × (least_with (by_order o 0 0 (1 + nodes p + rest) + (1 + j)) (node i (mark n d) p r)
        ≡ by_order o (least_with 0 (node i (mark n d) p r)) (node i (least_of d) (least_with j k) (least_with 0 r))
        (pick n (node i (least_of d) (least_with 0 p) (least_holding x (least_with j k) r)) (least_holding x (least_with j k) r)))

    here : p ≡ k
        → (0 + (1 + j) ≤ 1 + nodes p + nodes r) × (least_with (0 + (1 + j)) (node i (mark n d) p r) ≡ node i (least_of d) (least_with j k) (least_with 0 r))
    here q =
        let e0 : 0 + (1 + j) ≡ 1 + j = omega arith in
        let l' : j ≤ nodes p = subst (λ (z : Types). j ≤ nodes z) (sym q) l in
        let e1 : 1 + j - 1 ≡ j = omega arith in
        let e2 : 1 + j - (1 + nodes p) ≡ 0 = omega arith in (
          omega arith,
          ap (λ (z : ℕ). least_with z (node i (mark n d) p r)) e0
              ∙ least-by (1 + j) i n d p r true (inside-held n (1 + j) (1 + nodes p) (omega arith) (omega arith))
              ∙ same-siblings (ap (λ (z : ℕ). least_with z p) e1 ∙ ap (least_with j) q) (ap (λ (z : ℕ). least_with z r) e2),
        )

    there : Numbered x j r k
        → (1 + nodes p + rest + (1 + j) ≤ 1 + nodes p + nodes r) × (least_with (1 + nodes p + rest + (1 + j)) (node i (mark n d) p r)
        ≡ pick n (node i (least_of d) (least_with 0 p) (least_holding x (least_with j k) r)) (least_holding x (least_with j k) r))
    there w =
        let J = 1 + nodes p + rest + (1 + j) in
        let ek = past-none (J - 1) p (omega arith) in
        let e2 : J - (1 + nodes p) ≡ rest + (1 + j) = omega arith in
        let er : least_with (J - (1 + nodes p)) r ≡ least_holding x (least_with j k) r = ap (λ (z : ℕ). least_with z r) e2 ∙ w.is in (
          omega (arith, w.inside),
          least-by J i n d p r n (past-held n J (1 + nodes p) (omega arith)) ∙ rw (ek, er) refl,
        )

    go : (o : Compare x i) → find_by o (tree (mark n d) p) (find x r) ≡ present (tree (mark m b) k)
        → (find x r ≡ present (tree (mark m b) k) → j ≤ nodes k → Numbered x j r k) → Goal o
    go (lt h) e ih = no-child e
    go (eq h) e ih = let q : p ≡ k = cc in here q
    go (gt h) e ih = there (ih e l)

-- ---- what contains them

-- A child of a message that fits has a value of its type's basic type.
held-value : (i b : ℕ) (v : Value) {c l r s : Forest Value} → T (eqb (basic_of v) b)
    → (h : (0 < i) × (i < 65536) × Proper v × SoundValues l × SoundValues s)
    → Contained c l → Contained r s → Contained (node i (least_of b) c r) (node i v l s)
held-value i b (value d w) {c} {l} {r} {s} t h p q =
    let e = eqb→eq d b t in
    subst (λ (z : ℕ). Contained (node i (least_of b) c r) (node i (value z w) l s)) (sym e)
    (with (least-most b w (subst (λ (z : ℕ). is_value z w ≡ true) e h.2.valid)) p q)

under-id : {i j : ℕ} {c k r : Forest Value} {v : Value} → j ≡ i → Contained c (node i v k r) → Contained c (node j v k r)
under-id {c = c} {k = k} {r = r} {v = v} e p = subst (λ (z : ℕ). Contained c (node z v k r)) (sym e) p

end-least : Contained (least_with 0 end) end
unfolding least_with
end-least = nothing

-- A message that fits contains the mandatory ones.
pub contained-least : (F : Forest Value) (K : Types) → SoundValues F → T (are_subtypes (own_types F) K) → Contained (least_with 0 K) F
unfolding are_subtypes map_forest SoundValues
contained-least end end w t = end-least
contained-least (node j v l s) end w t = absurd t
contained-least end (node i (mark n b) k r) w t =
    subst (λ (z : Forest Value). Contained z end) (sym (least_zero i n b k r))
    (optional n (and_l (not n) (are_subtypes end r) t) (contained-least end r w (and_r (not n) (are_subtypes end r) t)))
  where
    optional : (n : Bool) → T (not n) → Contained (least_with 0 r) end
        → Contained (pick n (node i (least_of b) (least_with 0 k) (least_with 0 r)) (least_with 0 r)) end
    optional true u p = absurd u
    optional false u p = p
contained-least (node j v l s) (node i (mark n b) k r) w t =
    subst (λ (z : Forest Value). Contained z (node j v l s)) (sym (least_zero i n b k r))
    (go (compare j i) n t (contained-least l k w.3) (contained-least s r w.4) (contained-least (node j v l s) r w))
  where
    F : Forest Value
    F = node j v l s

    both : Bool → Bool
    both n = eqb (basic_of v) b && (implies n true && (are_subtypes (own_types l) k && are_subtypes (own_types s) r))

    go : (d : Compare j i) (n : Bool) → T (are_subtypes_by d (both n) (not n && are_subtypes (own_types F) r))
        → (T (are_subtypes (own_types l) k) → Contained (least_with 0 k) l) → (T (are_subtypes (own_types s) r) → Contained (least_with 0 r) s)
        → (T (are_subtypes (own_types F) r) → Contained (least_with 0 r) F)
        → Contained (pick n (node i (least_of b) (least_with 0 k) (least_with 0 r)) (least_with 0 r)) F
    go (lt d) n t hl hs h_f = absurd t
    go (gt d) true t hl hs h_f = absurd t
    go (gt d) false t hl hs h_f = h_f t
    go (eq d) true t hl hs h_f =
        let u = and_r (eqb (basic_of v) b) (are_subtypes (own_types l) k && are_subtypes (own_types s) r) t in
        under-id d
        (held-value i b v (and_l (eqb (basic_of v) b) (are_subtypes (own_types l) k && are_subtypes (own_types s) r) t)
        (subst (λ (z : ℕ). (0 < z) × (z < 65536) × Proper v × SoundValues l × SoundValues s) d w)
        (hl (and_l (are_subtypes (own_types l) k) (are_subtypes (own_types s) r) u)) (hs (and_r (are_subtypes (own_types l) k) (are_subtypes (own_types s) r) u)))
    go (eq d) false t hl hs h_f =
        without (hs (and_r (are_subtypes (own_types l) k) (are_subtypes (own_types s) r)
        (and_r (eqb (basic_of v) b) (are_subtypes (own_types l) k && are_subtypes (own_types s) r) t)))

-- A message that fits and has the child x contains these with it, if its children contain c.
pub contained-child : (x : ℕ) (c : Forest Value) (F : Forest Value) (K : Types) → SoundValues F → T (are_subtypes (own_types F) K)
    → (v : Value) (f : Forest Value) → find x F ≡ present (tree v f) → Contained c f → Contained (least_holding x c K) F
unfolding find are_subtypes map_forest SoundValues least_holding
contained-child x c end K w t v f e p = no_value e
contained-child x c (node j a l s) end w t v f e p = absurd t
contained-child x c (node j a l s) (node i (mark n b) k r) w t v f e p =
    go (compare j i) (compare x i) n t (contained-least l k w.3) (contained-least s r w.4) (λ u q. contained-child x c s r w.4 u v f q p)
    (λ u. contained-child x c F r w u v f e p)
  where
    F : Forest Value
    F = node j a l s

    both : Bool → Bool
    both n = eqb (basic_of a) b && (implies n true && (are_subtypes (own_types l) k && are_subtypes (own_types s) r))

    others : Forest Value
    others = least_holding x c r

    held : (n : Bool) → T (both n) → (T (eqb (basic_of a) b)) × (T (are_subtypes (own_types l) k)) × (T (are_subtypes (own_types s) r))
    held n t =
        let u = and_r (eqb (basic_of a) b) (implies n true && (are_subtypes (own_types l) k && are_subtypes (own_types s) r)) t in
        let z = and_r (implies n true) (are_subtypes (own_types l) k && are_subtypes (own_types s) r) u in (
          and_l (eqb (basic_of a) b) (implies n true && (are_subtypes (own_types l) k && are_subtypes (own_types s) r)) t,
          and_l (are_subtypes (own_types l) k) (are_subtypes (own_types s) r) z,
          and_r (are_subtypes (own_types l) k) (are_subtypes (own_types s) r) z,
        )

    found : (h : Compare x j) → x ≡ j → find_by h (tree a l) (find x s) ≡ present (tree v f) → l ≡ f
    found h q e = let y = sym (find-eq h q (tree a l) (find x s)) ∙ e in cc

    later : (h : Compare x j) → j < x → find_by h (tree a l) (find x s) ≡ present (tree v f) → find x s ≡ present (tree v f)
    later h q e = sym (find-gt h q (tree a l) (find x s)) ∙ e

    earlier : {X : Type 0} (h : Compare x j) → x < j → find_by h (tree a l) (find x s) ≡ present (tree v f) → X
    earlier h q e = no_value (sym (find-lt h q (tree a l) (find x s)) ∙ e)

    on : (n : Bool) → j ≡ i → (T (eqb (basic_of a) b)) → Contained (least_with 0 k) l → Contained others s
        → Contained (pick n (node i (least_of b) (least_with 0 k) others) others) F
    on true d u hl ho = under-id d (held-value i b a u (subst (λ (z : ℕ). (0 < z) × (z < 65536) × Proper a × SoundValues l × SoundValues s) d w) hl ho)
    on false d u hl ho = without ho

    go : (d : Compare j i) (o : Compare x i) (n : Bool) → T (are_subtypes_by d (both n) (not n && are_subtypes (own_types F) r))
        → (T (are_subtypes (own_types l) k) → Contained (least_with 0 k) l) → (T (are_subtypes (own_types s) r) → Contained (least_with 0 r) s)
        → (T (are_subtypes (own_types s) r) → find x s ≡ present (tree v f) → Contained others s)
        → (T (are_subtypes (own_types F) r) → Contained others F)
        → Contained (by_order o (least_with 0 (node i (mark n b) k r)) (node i (least_of b) c (least_with 0 r))
        (pick n (node i (least_of b) (least_with 0 k) others) others)) F
    go (lt d) o n t hl hs ho h_f = absurd t
    go (gt d) (lt h) n t hl hs ho h_f = earlier (compare x j) (omega arith) e
    go (gt d) (eq h) n t hl hs ho h_f = earlier (compare x j) (omega arith) e
    go (gt d) (gt h) true t hl hs ho h_f = absurd t
    go (gt d) (gt h) false t hl hs ho h_f = h_f t
    go (eq d) (lt h) n t hl hs ho h_f = earlier (compare x j) (omega arith) e
    go (eq d) (eq h) n t hl hs ho h_f =
        let y = held n t in
        let q = found (compare x j) (h ∙ sym d) e in
        under-id d (held-value i b a y.0 (subst (λ (z : ℕ). (0 < z) × (z < 65536) × Proper a × SoundValues l × SoundValues s) d w)
        (subst (λ (z : Forest Value). Contained c z) (sym q) p) (hs y.2))
    go (eq d) (gt h) n t hl hs ho h_f = let y = held n t in on n d y.0 (hl y.1) (ho y.2 (later (compare x j) (omega arith) e))
