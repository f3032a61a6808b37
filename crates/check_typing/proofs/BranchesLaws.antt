-- Laws of branches one after another: the checker of a choice goes on from what is known after its first branches; a
-- starter's union and its test are those worked out in order.
use Rattle.std.specs.Prelude.{◌≡◌, List, [], ◌∷◌, Bool, ◌&&◌, ℕ, T}
use Rattle.std.proofs.Math.Path.{refl, ap}
use Rattle.std.proofs.Common.{sym, subst, ◌∙◌}
use Rattle.std.proofs.Math.Bool.{true, false}
use Rattle.basics.specs.TestLaws.{T_of, and_i, and_l, and_r, not-T-false, of_t}
use Rattle.tree_forest.specs.Forest.{end, Lookup, absent, present, find, Rising}
use Rattle.tree_forest.specs.ForestLaws.{forest-ext}
use Rattle.refusal.specs.declared.Refusal.TheVariants.{EnvironmentsDiffer}
use Rattle.network_syntax.specs.Syntax.{Mark, Types, MessageType, Behaviour, sequence, Branches, last_branch, branch}
use Rattle.check_typing.specs.Result.{yields, demand, Checked, refused, passed, with_row, next}
use Rattle.check_typing.specs.Checker.{same_types, agreeing, check, check_branches}
use Rattle.check_typing.proofs.CheckerLaws.{same_types-eq, same_types-refl}
use Rattle.check_typing.specs.NetworkRules.{OneType, OneTypeWith, OneTypeEach, union, union_of}
use Rattle.check_typing.specs.NetworkChecker.{one_type, one_type_each}
use Rattle.check_typing.proofs.NetworkLaws.{AllRising, either, find-union, union-rising, union_of-rising, one_type-sound, one_type-complete}
use Rattle.check_typing.proofs.NetworkLaws.{each-one-sound, each-one-complete, end-rising, not-present}
use Rattle.check_typing.specs.Branches.{conclude_choice, union_from, one_type_from}

-- A choice -----------------------------------------------------------------------------------------------------------

and-twice : (s t : Bool) → (s && t) ≡ ((s && t) && t)
and-twice true true = refl
and-twice true false = refl
and-twice false t = refl

-- Two that are the first one's are the same.
both-same : (s : Bool) (Γ Δ Θ : Types) → same_types Θ Δ ≡ false → ((s && same_types Δ Γ) && same_types Θ Γ) ≡ false
both-same s Γ Δ Θ e = not-T-false ((s && same_types Δ Γ) && same_types Θ Γ) (λ t.
    let a = same_types-eq Δ Γ (and_r s (same_types Δ Γ) (and_l (s && same_types Δ Γ) (same_types Θ Γ) t)) in
    let b = same_types-eq Θ Γ (and_r (s && same_types Δ Γ) (same_types Θ Γ) t) in
    subst T e (subst (λ (z : Types). T (same_types Θ z)) (b ∙ sym a) (same_types-refl Θ)))

module _ (q c : ℕ) where
  -- The first of several branches.
  pub first-branch : (r : ℕ) (a b : Behaviour) (m : Branches) (Γ : Types)
      → check_branches q c (branch r a b m) Γ ≡ next (check q (sequence r a b) Γ) (λ Δ. conclude_choice c Δ true (check_branches q c m Γ))
  unfolding check next
  first-branch r a b m Γ = go (next (check q a Γ) (λ Γ1. check q b Γ1)) (check_branches q c m Γ)
    where
      go : (x y : Checked Types) → next x (λ Δ. next y (λ Θ. with_row c (agreeing Θ Δ))) ≡ next x (λ Δ. conclude_choice c Δ true y)
      go (refused w) y = refl
      go (passed Δ) (refused w) = refl
      go (passed Δ) (passed Θ) = refl

  -- A later branch that is not the last.
  pub next-branch : (Δ : Types) (s : Bool) (r : ℕ) (a b : Behaviour) (m : Branches) (Γ : Types)
      → conclude_choice c Δ s (check_branches q c (branch r a b m) Γ)
      ≡ next (check q (sequence r a b) Γ) (λ Θ. conclude_choice c Δ (s && same_types Θ Δ) (check_branches q c m Γ))
  unfolding check next
  next-branch Δ s r a b m Γ = go (next (check q a Γ) (λ Γ1. check q b Γ1)) (check_branches q c m Γ)
    where
      by : (Θ Ψ : Types) (t : Bool) → same_types Ψ Θ ≡ t → conclude_choice c Δ s (with_row c (demand t EnvironmentsDiffer (yields Θ)))
          ≡ with_row c (demand ((s && same_types Θ Δ) && same_types Ψ Δ) EnvironmentsDiffer (yields Δ))
      by Θ Ψ true e =
          ap (λ (z : Bool). with_row c (demand z EnvironmentsDiffer (yields Δ)))
          (and-twice s (same_types Θ Δ) ∙ ap (λ (z : Types). ((s && same_types Θ Δ) && same_types z Δ)) (sym (same_types-eq Ψ Θ (T_of e))))
      by Θ Ψ false e = ap (λ (z : Bool). with_row c (demand z EnvironmentsDiffer (yields Δ))) (sym (both-same s Δ Θ Ψ e))

      go : (x y : Checked Types) → conclude_choice c Δ s (next x (λ Θ. next y (λ Ψ. with_row c (agreeing Ψ Θ))))
          ≡ next x (λ Θ. conclude_choice c Δ (s && same_types Θ Δ) y)
      go (refused w) y = refl
      go (passed Θ) (refused w) = refl
      go (passed Θ) (passed Ψ) = by Θ Ψ (same_types Ψ Θ) refl

  -- The last of several branches.
  pub last-branch : (Δ : Types) (s : Bool) (r : ℕ) (a b : Behaviour) (Γ : Types)
      → conclude_choice c Δ s (check_branches q c (last_branch r a b) Γ)
      ≡ next (check q (sequence r a b) Γ) (λ Θ. with_row c (demand (s && same_types Θ Δ) EnvironmentsDiffer (yields Δ)))
  unfolding check next
  last-branch Δ s r a b Γ = go (next (check q a Γ) (λ Γ1. check q b Γ1))
    where
      go : (x : Checked Types) → conclude_choice c Δ s x ≡ next x (λ Θ. with_row c (demand (s && same_types Θ Δ) EnvironmentsDiffer (yields Δ)))
      go (refused w) = refl
      go (passed Θ) = refl

-- A starter ----------------------------------------------------------------------------------------------------------

one-type-sym : (Γ Δ : Types) → OneType Γ Δ → OneType Δ Γ
one-type-sym Γ Δ h i t u e f = sym (h i u t f e)

-- A root that Γ or Δ has is in their union; a root of the union is in one of them.
in-first : (Γ Δ : Types) → Rising Γ → (i : ℕ) (t : MessageType) → find i Γ ≡ present t → find i (union Γ Δ) ≡ present t
in-first Γ Δ w i t e = find-union Γ Δ w i ∙ ap (λ (l : Lookup Mark). either l (find i Δ)) e

in-second : (Γ Δ : Types) → Rising Γ → OneType Γ Δ → (i : ℕ) (t : MessageType) → find i Δ ≡ present t → find i (union Γ Δ) ≡ present t
in-second Γ Δ w o i t e = find-union Γ Δ w i ∙ go (find i Γ) refl
  where
    go : (l : Lookup Mark) → find i Γ ≡ l → either l (find i Δ) ≡ present t
    go absent f = e
    go (present s) f = ap present (o i s t f e)

with-parts : (Γ Δ : Types) (Θs : List Types) → Rising Γ → OneType Γ Δ → OneTypeWith (union Γ Δ) Θs → OneTypeWith Γ Θs × OneTypeWith Δ Θs
unfolding OneTypeWith
with-parts Γ Δ [] w o h = (tt, tt)
with-parts Γ Δ (Θ ∷ Θs) w o h =
    let r = with-parts Γ Δ Θs w o h.1 in
    (((λ i t u e f. h.0 i t u (in-first Γ Δ w i t e) f), r.0), ((λ i t u e f. h.0 i t u (in-second Γ Δ w o i t e) f), r.1))

with-union : (Γ Δ : Types) (Θs : List Types) → Rising Γ → OneTypeWith Γ Θs → OneTypeWith Δ Θs → OneTypeWith (union Γ Δ) Θs
unfolding OneTypeWith
with-union Γ Δ [] w g d = tt
with-union Γ Δ (Θ ∷ Θs) w g d = ((λ i t u e f. go i t u (find i Γ) refl (sym (find-union Γ Δ w i) ∙ e) f), with-union Γ Δ Θs w g.1 d.1)
  where
    go : (i : ℕ) (t u : MessageType) (l : Lookup Mark) → find i Γ ≡ l → either l (find i Δ) ≡ present t → find i Θ ≡ present u → t ≡ u
    go i t u absent k e f = d.0 i t u e f
    go i t u (present s) k e f = g.0 i t u (k ∙ e) f

from-sound : (s : Bool) (Γ : Types) (Δs : List Types) → AllRising Δs → T (one_type_from s Γ Δs) → T s × OneTypeWith Γ Δs × OneTypeEach Δs
unfolding one_type_from OneTypeWith OneTypeEach AllRising
from-sound s Γ [] w h = (h, tt, tt)
from-sound s Γ (Δ ∷ Δs) w h =
    let r = from-sound (s && one_type Δ Γ) (union Δ Γ) Δs w.1 h in
    let o = one_type-sound Δ Γ (and_r s (one_type Δ Γ) r.0) in
    let p = with-parts Δ Γ Δs w.0 o r.1 in
    (and_l s (one_type Δ Γ) r.0, (one-type-sym Δ Γ o, p.1), (p.0, r.2))

from-complete : (s : Bool) (Γ : Types) (Δs : List Types) → AllRising Δs → T s → OneTypeWith Γ Δs → OneTypeEach Δs → T (one_type_from s Γ Δs)
unfolding one_type_from OneTypeWith OneTypeEach AllRising
from-complete s Γ [] w t h e = t
from-complete s Γ (Δ ∷ Δs) w t h e =
    from-complete (s && one_type Δ Γ) (union Δ Γ) Δs w.1
    (and_i s (one_type Δ Γ) t (one_type-complete Δ Γ w.0 (one-type-sym Γ Δ h.0))) (with-union Δ Γ Δs w.0 e.0 h.1) e.1

same_test : (a b : Bool) → (T a → T b) → (T b → T a) → a ≡ b
same_test true b f g = sym (of_t b (f tt))
same_test false b f g = sym (not-T-false b g)

with-end : (Δs : List Types) → OneTypeWith end Δs
unfolding OneTypeWith find
with-end [] = tt
with-end (Δ ∷ Δs) = ((λ i t u e f. absurd (not-present e)), with-end Δs)

-- The test worked out in order is the checker's.
pub one_type-in-order : (Γs : List Types) → AllRising Γs → one_type_from true end Γs ≡ one_type_each Γs
one_type-in-order Γs w =
    same_test (one_type_from true end Γs) (one_type_each Γs)
    (λ t. each-one-complete Γs w (from-sound true end Γs w t).2)
    (λ t. from-complete true end Γs w tt (with-end Γs) (each-one-sound Γs t))

either_end : (l : Lookup Mark) → l ≡ either l absent
either_end absent = refl
either_end (present t) = refl

find-union_from : (Γ : Types) (Δs : List Types) → AllRising Δs → OneTypeWith Γ Δs → OneTypeEach Δs → (i : ℕ)
    → find i (union_from Γ Δs) ≡ either (find i Γ) (find i (union_of Δs))
unfolding union_from union_of AllRising OneTypeWith OneTypeEach find
find-union_from Γ [] w h e i = either_end (find i Γ)
find-union_from Γ (Δ ∷ Δs) w h e i =
    find-union_from (union Δ Γ) Δs w.1 (with-union Δ Γ Δs w.0 e.0 h.1) e.1 i
    ∙ (ap (λ (l : Lookup Mark). either l (find i (union_of Δs))) (find-union Δ Γ w.0 i)
    ∙ (go (find i Δ) (find i Γ) refl refl ∙ ap (λ (l : Lookup Mark). either (find i Γ) l) (sym (find-union Δ (union_of Δs) w.0 i))))
  where
    go : (d g : Lookup Mark) → find i Δ ≡ d → find i Γ ≡ g → either (either d g) (find i (union_of Δs)) ≡ either g (either d (find i (union_of Δs)))
    go absent g k l = refl
    go (present t) absent k l = refl
    go (present t) (present u) k l = ap present (sym (h.0 i u t l k))

union_from-rising : (Γ : Types) (Δs : List Types) → Rising Γ → AllRising Δs → Rising (union_from Γ Δs)
unfolding union_from AllRising
union_from-rising Γ [] w ws = w
union_from-rising Γ (Δ ∷ Δs) w ws = union_from-rising (union Δ Γ) Δs (union-rising Δ Γ ws.0 w) ws.1

-- Where each root has one type, the union worked out in order is the checker's.
pub union-in-order : (Γs : List Types) → AllRising Γs → OneTypeEach Γs → union_from end Γs ≡ union_of Γs
unfolding find
union-in-order Γs w o =
    forest-ext (union_from end Γs) (union_of Γs) (union_from-rising end Γs end-rising w) (union_of-rising Γs w)
    (λ i. find-union_from end Γs w (with-end Γs) o i)
