-- The union of environments in which each root has one type only grows: where a part of it passes the limits, the whole does.
use Rattle.std.specs.Prelude.{◌≡◌, List, [], ◌∷◌, Bool, true, ◌&&◌, ℕ, max, ◌+◌, ◌≤◌, T, eqb}
use Rattle.std.proofs.Common.{ap, sym, subst, ◌∙◌, arith, eqb→eq}
use Rattle.basics.specs.TestLaws.{T_of, and_l, and-of, and_r, of_t}
use Rattle.tree_forest.specs.Forest.{end, node, tree, Lookup, absent, present, find, set, Above, Rising, measure}
use Rattle.tree_forest.specs.ForestLaws.{Combining}
use Rattle.network_syntax.specs.Syntax.{Mark, mark, Types, MessageType}
use Rattle.check_subtyping.proofs.SubtypeLaws.{find-above}
use Rattle.check_typing.specs.Rules.{same_bool}
use Rattle.check_typing.specs.Environment.{within}
use Rattle.check_typing.proofs.EnvironmentLaws.{measure_lookup, measure-set, sums, maxima, within-smaller}
use Rattle.check_typing.specs.Checker.{same_types}
use Rattle.check_typing.proofs.CheckerLaws.{same_bool-eq, same_types-eq}
use Rattle.check_typing.specs.NetworkRules.{union}
use Rattle.check_typing.specs.NetworkChecker.{same_tree, one_type_at, one_type}
use Rattle.check_typing.proofs.NetworkLaws.{either, find-union, AllRising}
use Rattle.check_typing.specs.Branches.{union_from, one_type_from}

pub same-tree-eq : (t u : MessageType) → T (same_tree t u) → t ≡ u
same-tree-eq (tree (mark m b) k) (tree (mark n c) l) h =
    let p = same_bool-eq m n (and_l (same_bool m n) (eqb b c && same_types k l) h) in
    let r = and_r (same_bool m n) (eqb b c && same_types k l) h in
    let q = eqb→eq b c (and_l (eqb b c) (same_types k l) r) in
    let w = same_types-eq k l (and_r (eqb b c) (same_types k l) r) in
    cc

pub one-parts : (i : ℕ) (a : Mark) (k r Δ : Types) → one_type (node i a k r) Δ ≡ true → (one_type_at (tree a k) (find i Δ) ≡ true) × (one_type r Δ ≡ true)
unfolding one_type
one-parts i a k r Δ e = and-of (one_type_at (tree a k) (find i Δ)) (one_type r Δ) e

found-size : (g : ℕ → ℕ → ℕ) (t : MessageType) (l : Lookup Mark) → one_type_at t l ≡ true → measure_lookup g l ≤ measure_lookup g (present t)
found-size g (tree a k) absent e = omega arith
found-size g (tree a k) (present u) e =
    let q = same-tree-eq (tree a k) u (T_of e) in
    subst (λ (z : MessageType). measure_lookup g (present z) ≤ measure_lookup g (present (tree a k))) q (omega arith)

root-found : (i : ℕ) (r Δ : Types) → Above i r → Rising r → find i (union r Δ) ≡ find i Δ
root-found i r Δ ab w = find-union r Δ w i ∙ ap (λ (l : Lookup Mark). either l (find i Δ)) (find-above i i r ab (omega arith))

root-grows : (g : ℕ → ℕ → ℕ) → Combining g → (i : ℕ) (a : Mark) (k r Δ : Types) → Above i r → Rising r → one_type_at (tree a k) (find i Δ) ≡ true →
    measure g (union r Δ) ≤ measure g (set i (tree a k) (union r Δ))
root-grows g G i a k r Δ ab w o =
    measure-set g G i (tree a k) (union r Δ)
    (subst (λ (l : Lookup Mark). measure_lookup g l ≤ measure_lookup g (present (tree a k))) (sym (root-found i r Δ ab w)) (found-size g (tree a k) (find i Δ) o))

-- one more root
pub root-within : (i : ℕ) (a : Mark) (k r Δ : Types) → Above i r → Rising r → one_type_at (tree a k) (find i Δ) ≡ true →
    within (set i (tree a k) (union r Δ)) ≡ true → within (union r Δ) ≡ true
root-within i a k r Δ ab w o n =
    of_t (within (union r Δ))
    (within-smaller (union r Δ) (set i (tree a k) (union r Δ)) (root-grows ◌+◌ sums i a k r Δ ab w o) (root-grows max maxima i a k r Δ ab w o) (T_of n))

-- one more environment
pub union-within : (Γ Δ : Types) → Rising Γ → one_type Γ Δ ≡ true → within (union Γ Δ) ≡ true → within Δ ≡ true
unfolding union Rising
union-within end Δ w o n = n
union-within (node i a k r) Δ w o n =
    let p = one-parts i a k r Δ o in
    union-within r Δ w.2 p.1 (root-within i a k r Δ w.0 w.2 p.0 n)

pub from_start : (one : Bool) (Γ : Types) (Δs : List Types) → one_type_from one Γ Δs ≡ true → one ≡ true
unfolding one_type_from
from_start one Γ [] e = e
from_start one Γ (Δ ∷ Δs) e = (and-of one (one_type Δ Γ) (from_start (one && one_type Δ Γ) (union Δ Γ) Δs e)).0

-- all the others, one after another
pub union_from-within : (one : Bool) (Γ : Types) (Δs : List Types) → AllRising Δs → one_type_from one Γ Δs ≡ true → within (union_from Γ Δs) ≡ true →
    within Γ ≡ true
unfolding union_from one_type_from AllRising
union_from-within one Γ [] w o n = n
union_from-within one Γ (Δ ∷ Δs) w o n =
    union-within Δ Γ w.0 (and-of one (one_type Δ Γ) (from_start (one && one_type Δ Γ) (union Δ Γ) Δs o)).1
    (union_from-within (one && one_type Δ Γ) (union Δ Γ) Δs w.1 o n)
