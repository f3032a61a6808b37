-- A type whose least messages all fit another is a subtype of it.
use Rattle.std.specs.Prelude.{◌≡◌, refl, Bool, true, false, ℕ, zero, suc, ◌+◌, ◌<◌, ◌≤◌, T}
use Rattle.std.proofs.Common.{sym, ap, subst, ◌∙◌, arith}
use Rattle.basics.specs.Choice.{pick}
use Rattle.tree_forest.specs.Compare.{Compare, lt, eq, gt, compare}
use Rattle.tree_forest.specs.Forest.{Forest, end, node, Tree, tree, Lookup, absent, present, find, find_by, Above, Rising, nodes, map_lookup}
use Rattle.tree_forest.specs.ForestLaws.{find-map, find-lt, find-gt}
use Rattle.scalar.specs.Value.{Value}
use Rattle.network_syntax.specs.Syntax.{Mark, mark, Types}
use Rattle.check_subtyping.specs.Subtype.{ChildSubtype, Subtypes}
use Rattle.check_subtyping.proofs.SubtypeLaws.{child-cast, child-basics, child-below, not-present-absent, absent-not-mandatory, in-both}
use Rattle.check_subtyping.specs.Own.{own_mark, own_types}
use Rattle.counterexample_rules.specs.Breaking.{least_of, least_with}
use Rattle.counterexample_rules.specs.ContainedLaws.{nothing_above}
use Rattle.counterexample_rules.specs.LeastLaws.{least_zero, least_above}
use Rattle.counterexample_rules.specs.ChildLaws.{before, numbered, find-child}
use Rattle.counterexample_rules.specs.WithinLaws.{found-fewer, found-rising, none_found}

-- Missing, or optional.
pub data NotMandatory : Lookup Mark → Type 0 where
  missing : NotMandatory absent
  optional : {b : ℕ} {k : Types} → NotMandatory (present (tree (mark false b) k))

mandatory : {A : Type 0} {b : ℕ} {k : Types} → NotMandatory (present (tree (mark true b) k)) → A
mandatory = elim [ ]

end-absent : (x : ℕ) → find x (least_with 0 end) ≡ absent
unfolding find least_with
end-absent x = refl

-- What is not mandatory is not held without a number.
pub zero-absent : (x : ℕ) (K : Types) → Rising K → NotMandatory (find x K) → find x (least_with 0 K) ≡ absent
unfolding find Rising
zero-absent x end w h = end-absent x
zero-absent x (node i (mark m b) k r) w h = ap (find x) (least_zero i m b k r) ∙ go (compare x i) m h (zero-absent x r w.2)
  where
    go : (o : Compare x i) (m : Bool) → NotMandatory (find_by o (tree (mark m b) k) (find x r))
        → (NotMandatory (find x r) → find x (least_with 0 r) ≡ absent)
        → find x (pick m (node i (least_of b) (least_with 0 k) (least_with 0 r)) (least_with 0 r)) ≡ absent
    go (lt o) true h ih = find-lt (compare x i) o (tree (least_of b) (least_with 0 k)) (find x (least_with 0 r))
    go (lt o) false h ih = nothing_above x i (least_with 0 r) (least_above i 0 r w.0 w.2) (omega arith)
    go (eq o) true h ih = mandatory h
    go (eq o) false h ih = nothing_above x i (least_with 0 r) (least_above i 0 r w.0 w.2) (omega arith)
    go (gt o) true h ih = find-gt (compare x i) o (tree (least_of b) (least_with 0 k)) (find x (least_with 0 r)) ∙ ih h
    go (gt o) false h ih = ih h

-- The least siblings of K are ≤ L.
abbrev pub EachLeastFits : Types → Types → Type 0
EachLeastFits K L = (j : ℕ) → j ≤ nodes K → Subtypes (own_types (least_with j K)) L

module _ (K L : Types) (w : Rising K) (h : EachLeastFits K L)
    (below : (k l : Types) → nodes k < nodes K → Rising k → EachLeastFits k l → Subtypes k l) (x : ℕ) where
  -- without a number
  alone : NotMandatory (find x K) → ChildSubtype absent (find x L)
  alone n = child-cast (find-map own_mark x (least_with 0 K) ∙ ap (map_lookup own_mark) (zero-absent x K w n)) refl ((h 0 (omega arith)).at x)

  module _ (m : Bool) (b : ℕ) (k : Types) (e : find x K ≡ present (tree (mark m b) k)) where
    -- with the child, and below it the node number j
    held : (j : ℕ) → j ≤ nodes k → ChildSubtype (present (tree (mark true b) (own_types (least_with j k)))) (find x L)
    held j l =
        let y = numbered x j K m b k e l in
        let C = least_with (before x K + (1 + j)) K in
        let p : find x (own_types C) ≡ present (tree (mark true b) (own_types (least_with j k))) =
        find-map own_mark x C ∙ ap (map_lookup own_mark) (ap (find x) y.is ∙ find-child x (least_with j k) K m b k e) in
        child-cast p refl ((h (before x K + (1 + j)) y.inside).at x)

    marks : (n : Bool) (c : ℕ) (l : Types) → find x L ≡ present (tree (mark n c) l) → (m' : Bool) → m ≡ m' → T n → T m'
    marks n c l q true f t = tt
    marks n c l q false f t =
        let o : NotMandatory (find x K) = subst NotMandatory (ap (λ (z : Bool). present (tree (mark z b) k)) (sym f) ∙ sym e) optional in
        absurd (absent-not-mandatory (child-cast refl q (alone o)) t)

    shown : (y : Lookup Mark) → find x L ≡ y → ChildSubtype (present (tree (mark m b) k)) y
    shown absent q = absurd (not-present-absent (child-cast refl q (held 0 (omega arith))))
    shown (present (tree (mark n c) l)) q =
        in-both (child-basics (child-cast refl q (held 0 (omega arith)))) (marks n c l q m refl)
        (below k l (found-fewer x K (mark m b) k e) (found-rising x K (mark m b) k w e) (λ j le. child-below (child-cast refl q (held j le)))).at

  by-type : (y : Lookup Mark) → find x K ≡ y → ChildSubtype (find x K) (find x L)
  by-type absent e = child-cast (sym e) refl (alone (subst NotMandatory (sym e) missing))
  by-type (present (tree (mark m b) k)) e = child-cast (sym e) refl (shown m b k e (find x L) refl)

ordered : (n : ℕ) (K L : Types) → nodes K ≤ n → Rising K → EachLeastFits K L → Subtypes K L
ordered zero K L z w h = record { at = λ x. by-type K L w h (λ k l s v g. absurd (omega arith)) x (find x K) refl }
ordered (suc n) K L z w h = record { at = λ x. by-type K L w h (λ k l s v g. ordered n k l (omega arith) v g) x (find x K) refl }

pub least-ordered : (K L : Types) → Rising K → EachLeastFits K L → Subtypes K L
least-ordered K L w h = ordered (nodes K) K L (omega arith) w h
