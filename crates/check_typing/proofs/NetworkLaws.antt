-- The checker of a network passes exactly the networks that the rules derive, with the derived environments; a network has
-- one list of environments.
use Rattle.std.specs.Prelude.{◌≡◌, refl, Bool, true, false, ◌&&◌, ℕ, suc, ◌≤◌, ◌<◌, T, eqb}
use Rattle.std.proofs.Math.Path.{sym, ap, subst}
use Rattle.std.proofs.Common.{◌∙◌, arith, eqb→eq}
use mathlib.Core.List.{List, [], ◌∷◌}
use Rattle.std.proofs.Math.Dec.{eqb_refl}
use Rattle.tree_forest.specs.Compare.{Compare, lt, eq, gt, compare}
use Rattle.tree_forest.specs.Forest.{Forest, end, node, tree, Lookup, absent, present, find, find_by, set, Above, Rising, RisingTree, measure}
use Rattle.tree_forest.specs.ForestLaws.{find-eq, find-gt, find-set-same, find-set-other, rising-set}
use Rattle.refusal.specs.declared.Refusal.TheVariants.{EnvironmentsDiffer, EnvironmentTooLarge, OutputMismatch, UnfitKey}
use Rattle.basics.specs.Choice.{pick}
use Rattle.basics.specs.TestLaws.{T_of, and_i, and_l, and_r, of_t}
use Rattle.network_syntax.specs.Syntax.{Mark, mark, Types, MessageType, Direction, input, output, Operation, Behaviour, Branches, last_branch, branch}
use Rattle.network_syntax.specs.Syntax.{Optional, none, some, Service, Network}
use Rattle.network_syntax.specs.Rows.{row_of, entry, Choice, choice_of}
use Rattle.network_syntax.specs.ViewLaws.{choice-is}
use Rattle.network_syntax.specs.Meets.{in_file, meets, first_of, met_input}
use Rattle.check_subtyping.specs.Subtype.{implies, is_subtype, Subtype}
use Rattle.check_subtyping.proofs.SubtypeLaws.{find-above, implies-elim, implies-intro, subtype-sound, subtype-complete}
use Rattle.check_typing.specs.Result.{Attempt, yields, demand, Checked, refused, passed, with_row, next}
use Rattle.check_typing.proofs.ResultLaws.{yields-inj, passed-inj, require-yields, require-holds, at_row-passed, next-passed, next-holds}
use Rattle.check_typing.specs.Environment.{within}
use Rattle.check_typing.proofs.EnvironmentLaws.{present-inj}
use Rattle.check_typing.specs.Rules.{same_bool, same_direction, Derives, RisingOperation, WellSorted, WellSortedBranches}
use Rattle.check_typing.specs.Checker.{same_types, limited, check}
use Rattle.check_typing.proofs.CheckerLaws.{same_bool-eq, same_bool-refl, same_types-eq, same_types-refl}
use Rattle.check_typing.proofs.DerivesLaws.{check-derives, derives-check, derives-rising}
use Rattle.check_typing.specs.NetworkRules.{sequences_of, of_choice, branches_of, DerivesEach, OneType, UnfitInput}
use Rattle.check_typing.specs.NetworkRules.{OneTypeWith, OneTypeEach, union, union_of, DerivesStarter}
use Rattle.check_typing.specs.NetworkRules.{DerivesClient, IfThere, Environments, DerivesServices, Agrees, AgreesWith}
use Rattle.check_typing.specs.NetworkRules.{OutputsMeet, DerivesNetwork, WellSortedIfThere, WellSortedServices, RisingOperations}
use Rattle.check_typing.specs.NetworkRules.{WellSortedNetwork}
use Rattle.check_typing.specs.NetworkChecker.{check_each, same_tree, one_type_at, one_type, one_type_with, one_type_each, check_starter}
use Rattle.check_typing.specs.NetworkChecker.{check_client, if_there, check_services, agrees, agrees_with, output_meets, check_outputs, check_network}
use Rattle.check_typing.specs.NetworkChecker.{check_keys}
use Rattle.check_typing.proofs.KeyLaws.{keys-sound, keys-complete, keys-refused}

-- The empty environment.
pub end-rising : Rising {A = Mark} end
unfolding Rising
end-rising = tt

end-within : T (within {A = Mark} end)
unfolding measure
end-within = tt

-- One type for a root ------------------------------------------------------------------------------------------------

same_tree-eq : (t u : MessageType) → T (same_tree t u) → t ≡ u
same_tree-eq (tree (mark m b) k) (tree (mark n c) l) h =
    let h1 = and_r (same_bool m n) (eqb b c && same_types k l) h in
    let e1 = same_bool-eq m n (and_l (same_bool m n) (eqb b c && same_types k l) h) in
    let e2 = eqb→eq b c (and_l (eqb b c) (same_types k l) h1) in
    let e3 = same_types-eq k l (and_r (eqb b c) (same_types k l) h1) in
    cc

same_tree-refl : (t : MessageType) → T (same_tree t t)
same_tree-refl (tree (mark m b) k) =
    and_i (same_bool m m) (eqb b b && same_types k k) (same_bool-refl m) (and_i (eqb b b) (same_types k k) (eqb_refl b) (same_types-refl k))

pub not-present : {t : MessageType} → absent ≡ present t → ⊥
not-present h = let z : ◌≡◌ {A = ℕ} 0 1 = cc in omega arith

at-sound : (t u : MessageType) (l : Lookup Mark) → l ≡ present u → T (one_type_at t l) → t ≡ u
at-sound t u absent e h = absurd (not-present e)
at-sound t u (present v) e h = same_tree-eq t v h ∙ present-inj e

at-complete : (t : MessageType) (l : Lookup Mark) → ((u : MessageType) → l ≡ present u → t ≡ u) → T (one_type_at t l)
at-complete t absent h = tt
at-complete t (present u) h = subst (λ (z : MessageType). T (same_tree t z)) (h u refl) (same_tree-refl t)

pub one_type-sound : (Γ Δ : Types) → T (one_type Γ Δ) → OneType Γ Δ
unfolding one_type find
one_type-sound end Δ h i t u e f = absurd (not-present e)
one_type-sound (node j a k r) Δ h i t u e f =
    go (compare i j) e (λ x. one_type-sound r Δ (and_r (one_type_at (tree a k) (find j Δ)) (one_type r Δ) h) i t u x f)
  where
    go : (c : Compare i j) → find_by c (tree a k) (find i r) ≡ present t → (find i r ≡ present t → t ≡ u) → t ≡ u
    go (lt c) e ih = absurd (not-present e)
    go (eq c) e ih =
        sym (present-inj e)
        ∙ at-sound (tree a k) u (find j Δ) (ap (λ (z : ℕ). find z Δ) (sym c) ∙ f) (and_l (one_type_at (tree a k) (find j Δ)) (one_type r Δ) h)
    go (gt c) e ih = ih e

pub one_type-complete : (Γ Δ : Types) → Rising Γ → OneType Γ Δ → T (one_type Γ Δ)
unfolding one_type find Rising
one_type-complete end Δ w h = tt
one_type-complete (node j a k r) Δ w h =
    and_i (one_type_at (tree a k) (find j Δ)) (one_type r Δ)
    (at-complete (tree a k) (find j Δ) (λ u e. h j (tree a k) u (find-eq (compare j j) refl (tree a k) (find j r)) e))
    (one_type-complete r Δ w.2 (λ i t u e f. h i t u (above i t (compare i j) e) f))
  where
    above : (i : ℕ) (t : MessageType) → Compare i j → find i r ≡ present t → find_by (compare i j) (tree a k) (find i r) ≡ present t
    above i t (lt c) e = absurd (not-present (sym (find-above i j r w.0 (omega arith)) ∙ e))
    above i t (eq c) e = absurd (not-present (sym (find-above i j r w.0 (omega arith)) ∙ e))
    above i t (gt c) e = find-gt (compare i j) c (tree a k) (find i r) ∙ e

unfoldable pub AllRising : List Types → Type 0
AllRising [] = Unit {0}
AllRising (Γ ∷ Γs) = Rising Γ × AllRising Γs

with-sound : (Γ : Types) (Γs : List Types) → T (one_type_with Γ Γs) → OneTypeWith Γ Γs
unfolding one_type_with OneTypeWith
with-sound Γ [] h = tt
with-sound Γ (Δ ∷ Δs) h =
    (one_type-sound Γ Δ (and_l (one_type Γ Δ) (one_type_with Γ Δs) h), with-sound Γ Δs (and_r (one_type Γ Δ) (one_type_with Γ Δs) h))

with-complete : (Γ : Types) (Γs : List Types) → Rising Γ → OneTypeWith Γ Γs → T (one_type_with Γ Γs)
unfolding one_type_with OneTypeWith
with-complete Γ [] w h = tt
with-complete Γ (Δ ∷ Δs) w h = and_i (one_type Γ Δ) (one_type_with Γ Δs) (one_type-complete Γ Δ w h.0) (with-complete Γ Δs w h.1)

pub each-one-sound : (Γs : List Types) → T (one_type_each Γs) → OneTypeEach Γs
unfolding one_type_each OneTypeEach
each-one-sound [] h = tt
each-one-sound (Γ ∷ Γs) h =
    (with-sound Γ Γs (and_l (one_type_with Γ Γs) (one_type_each Γs) h), each-one-sound Γs (and_r (one_type_with Γ Γs) (one_type_each Γs) h))

pub each-one-complete : (Γs : List Types) → AllRising Γs → OneTypeEach Γs → T (one_type_each Γs)
unfolding one_type_each OneTypeEach AllRising
each-one-complete [] w h = tt
each-one-complete (Γ ∷ Γs) w h =
    and_i (one_type_with Γ Γs) (one_type_each Γs) (with-complete Γ Γs w.0 h.0) (each-one-complete Γs w.1 h.1)

-- The union ----------------------------------------------------------------------------------------------------------

-- What is found in either, the first before the second.
abbrev pub either : Lookup Mark → Lookup Mark → Lookup Mark
either absent l = l
either (present t) l = present t

-- A root of the union is a root of one of the two.
pub find-union : (Γ Δ : Types) → Rising Γ → (i : ℕ) → find i (union Γ Δ) ≡ either (find i Γ) (find i Δ)
unfolding union find Rising
find-union end Δ w i = refl
find-union (node j a k r) Δ w i = go (compare i j) (find-union r Δ w.2 i)
  where
    go : (c : Compare i j) → find i (union r Δ) ≡ either (find i r) (find i Δ)
        → find i (set j (tree a k) (union r Δ)) ≡ either (find_by c (tree a k) (find i r)) (find i Δ)
    go (lt c) ih =
        find-set-other i j (tree a k) (union r Δ) (λ e. omega arith)
        ∙ (ih ∙ ap (λ (l : Lookup Mark). either l (find i Δ)) (find-above i j r w.0 (omega arith)))
    go (eq c) ih = ap (λ (z : ℕ). find z (set j (tree a k) (union r Δ))) c ∙ find-set-same j (tree a k) (union r Δ)
    go (gt c) ih = find-set-other i j (tree a k) (union r Δ) (λ e. omega arith) ∙ ih

pub union-rising : (Γ Δ : Types) → Rising Γ → Rising Δ → Rising (union Γ Δ)
unfolding union Rising
union-rising end Δ w v = v
union-rising (node j a k r) Δ w v = rising-set j (tree a k) (union r Δ) w.1 (union-rising r Δ w.2 v)

pub union_of-rising : (Γs : List Types) → AllRising Γs → Rising (union_of Γs)
unfolding union_of AllRising
union_of-rising [] w = end-rising
union_of-rising (Γ ∷ Γs) w = union-rising Γ (union_of Γs) w.0 (union_of-rising Γs w.1)

-- The list holds the environment.
pub data Among (Γ : Types) : List Types → Type 0 where
  at_first : {Δ : Types} {Γs : List Types} → Γ ≡ Δ → Among Γ (Δ ∷ Γs)
  in_rest : {Δ : Types} {Γs : List Types} → Among Γ Γs → Among Γ (Δ ∷ Γs)

one_of : (Γ Δ : Types) (Θs : List Types) → OneTypeWith Δ Θs → Among Γ Θs → OneType Δ Γ
unfolding OneTypeWith
one_of Γ Δ [] o x'' = elim x'' [ ]
one_of Γ Δ (Θ ∷ Θs) o (at_first e) = subst (OneType Δ) (sym e) o.0
one_of Γ Δ (Θ ∷ Θs) o (in_rest n) = one_of Γ Δ Θs o.1 n

either_same : (l m : Lookup Mark) (t : MessageType) → ((s : MessageType) → l ≡ present s → s ≡ t) → m ≡ present t → either l m ≡ present t
either_same absent m t f e = e
either_same (present s) m t f e = ap present (f s refl)

-- Each root of each branch stands in the union with its one type.
pub in-union : (Γ : Types) (Γs : List Types) → AllRising Γs → OneTypeEach Γs → Among Γ Γs → (i : ℕ) (t : MessageType) → find i Γ ≡ present t
    → find i (union_of Γs) ≡ present t
unfolding union_of AllRising OneTypeEach
in-union Γ [] w h x4 i t e = elim x4 [ ]
in-union Γ (Δ ∷ Γs) w h (at_first g) i t e =
    find-union Δ (union_of Γs) w.0 i
    ∙ ap (λ (l : Lookup Mark). either l (find i (union_of Γs))) (ap (λ (z : Types). find i z) (sym g) ∙ e)
in-union Γ (Δ ∷ Γs) w h (in_rest m) i t e =
    find-union Δ (union_of Γs) w.0 i
    ∙ either_same (find i Δ) (find i (union_of Γs)) t (λ s f. one_of Γ Δ Γs h.0 m i s t f e) (in-union Γ Γs w.1 h.1 m i t e)

-- The branches of a starter ------------------------------------------------------------------------------------------

unfoldable AllSorted : List Behaviour → Type 0
AllSorted [] = Unit {0}
AllSorted (B ∷ Bs) = WellSorted B × AllSorted Bs

sequences-sorted : (m : Branches) → WellSortedBranches m → AllSorted (sequences_of m)
unfolding sequences_of WellSorted AllSorted
sequences-sorted (last_branch r a b) ws = (ws, tt)
sequences-sorted (branch r a b m) ws = ((ws.0, ws.1), sequences-sorted m ws.2)

branches-sorted : (B : Behaviour) → WellSorted B → AllSorted (branches_of B)
unfolding branches_of WellSorted AllSorted
branches-sorted B ws = go (choice_of B) refl
  where
    go : (c : Optional Choice) → choice_of B ≡ c → AllSorted (of_choice c)
    go none e = tt
    go (some c) e = sequences-sorted c.branches (subst WellSorted (choice-is B c e) ws)

limited-yields : (Γ Δ : Types) → limited (yields Γ) ≡ yields Δ → (Γ ≡ Δ) × T (within Δ)
limited-yields Γ Δ h =
    let u = require-yields (within Γ) EnvironmentTooLarge (yields Γ) h in
    (yields-inj u.1, subst (λ (z : Types). T (within z)) (yields-inj u.1) u.0)

module _ (q : ℕ) where
  each-sound : (Bs : List Behaviour) (Γs : List Types) → AllSorted Bs → check_each q Bs ≡ passed Γs → DerivesEach q Bs Γs
  unfolding check_each DerivesEach AllSorted
  each-sound [] Γs ws h = sym (passed-inj h)
  each-sound (B ∷ Bs) Γs ws h =
      let u = next-passed (check q B end) (λ Γ. next (check_each q Bs) (λ Δs. passed (Γ ∷ Δs))) Γs h in
      let v = next-passed (check_each q Bs) (λ Δs. passed (u.0 ∷ Δs)) Γs u.2 in
      (u.0, v.0, check-derives q B end u.0 ws.0 end-within u.1, each-sound Bs v.0 ws.1 v.1, sym (passed-inj v.2))

  each-complete : (Bs : List Behaviour) (Γs : List Types) → AllSorted Bs → DerivesEach q Bs Γs → check_each q Bs ≡ passed Γs
  unfolding check_each DerivesEach AllSorted
  each-complete [] Γs ws h = ap passed (sym h)
  each-complete (B ∷ Bs) Γs ws h =
      next-holds (check q B end) (λ Γ. next (check_each q Bs) (λ Δs. passed (Γ ∷ Δs))) h.0
      (derives-check q B end h.0 ws.0 end-rising end-within h.2)
      ∙ (next-holds (check_each q Bs) (λ Δs. passed (h.0 ∷ Δs)) h.1 (each-complete Bs h.1 ws.1 h.3) ∙ ap passed (sym h.4))

  each-rising : (Bs : List Behaviour) (Γs : List Types) → AllSorted Bs → DerivesEach q Bs Γs → AllRising Γs
  unfolding DerivesEach AllSorted AllRising
  each-rising [] Γs ws h = subst AllRising (sym h) tt
  each-rising (B ∷ Bs) Γs ws h =
      subst AllRising (sym h.4) (derives-rising q B end h.0 ws.0 end-rising h.2, each-rising Bs h.1 ws.1 h.3)

  starter-sound : (B : Behaviour) (Γ : Types) → WellSorted B → check_starter q B ≡ passed Γ → DerivesStarter q B Γ
  starter-sound B Γ ws h =
      let u = next-passed (check_each q (branches_of B))
      (λ Γs. with_row (row_of B) (demand (one_type_each Γs) EnvironmentsDiffer (limited (yields (union_of Γs))))) Γ h in
      let v = require-yields (one_type_each u.0) EnvironmentsDiffer (limited (yields (union_of u.0))) (at_row-passed (row_of B) _ Γ u.2) in
      let w = limited-yields (union_of u.0) Γ v.1 in
      (u.0, each-sound (branches_of B) u.0 (branches-sorted B ws) u.1, each-one-sound u.0 v.0, w.0, w.1)

  starter-complete : (B : Behaviour) (Γ : Types) → WellSorted B → DerivesStarter q B Γ → check_starter q B ≡ passed Γ
  starter-complete B Γ ws h =
      let bs = branches-sorted B ws in
      next-holds (check_each q (branches_of B)) (λ Γs. with_row (row_of B) (demand (one_type_each Γs) EnvironmentsDiffer (limited (yields (union_of Γs)))))
      h.0
      (each-complete (branches_of B) h.0 bs h.1)
      ∙ ap (with_row (row_of B))
      (require-holds (one_type_each h.0) EnvironmentsDiffer (limited (yields (union_of h.0)))
      (each-one-complete h.0 (each-rising (branches_of B) h.0 bs h.1) h.2)
      ∙ (require-holds (within (union_of h.0)) EnvironmentTooLarge (yields (union_of h.0))
      (subst (λ (z : Types). T (within z)) (sym h.3) h.4)
      ∙ ap yields h.3))

  -- The starter's environment has its ids in order.
  pub starter-rising : (B : Behaviour) (Γ : Types) → WellSorted B → DerivesStarter q B Γ → Rising Γ
  starter-rising B Γ ws h =
      subst Rising h.3 (union_of-rising h.0 (each-rising (branches_of B) h.0 (branches-sorted B ws) h.1))

  client-sound : (B : Behaviour) (Γ : Types) → WellSorted B → check_client q B ≡ passed Γ → DerivesClient q B Γ
  client-sound B Γ ws h = check-derives q B end Γ ws end-within h

  client-complete : (B : Behaviour) (Γ : Types) → WellSorted B → DerivesClient q B Γ → check_client q B ≡ passed Γ
  client-complete B Γ ws h = derives-check q B end Γ ws end-rising end-within h

-- Services -----------------------------------------------------------------------------------------------------------

module _ (D : Behaviour → Types → Type 0) (f : Behaviour → Checked Types) where
  there-sound : ((B : Behaviour) (Γ : Types) → WellSorted B → f B ≡ passed Γ → D B Γ)
      → (B : Optional Behaviour) (E : Optional Types) → WellSortedIfThere B → if_there f B ≡ passed E → IfThere D B E
  there-sound s none E ws h = passed-inj h
  there-sound s (some B) E ws h =
      let u = next-passed (f B) (λ Γ. passed (some Γ)) E h in (u.0, s B u.0 ws u.1, passed-inj u.2)

  there-complete : ((B : Behaviour) (Γ : Types) → WellSorted B → D B Γ → f B ≡ passed Γ)
      → (B : Optional Behaviour) (E : Optional Types) → WellSortedIfThere B → IfThere D B E → if_there f B ≡ passed E
  there-complete s none E ws h = ap passed h
  there-complete s (some B) E ws h = next-holds (f B) (λ Γ. passed (some Γ)) h.0 (s B h.0 ws h.1) ∙ ap passed h.2

services-sound : (q : ℕ) (ss : List Service) (Es : List Environments) → WellSortedServices ss → check_services q ss ≡ passed Es
    → DerivesServices q ss Es
unfolding check_services DerivesServices WellSortedServices
services-sound q [] Es ws h = sym (passed-inj h)
services-sound q (s ∷ ss) Es ws h =
    let u = next-passed (if_there (check_starter q) s.starter) (λ Γ. next (if_there (check_client q) s.client)
    (λ Δ. next (check_services (suc q) ss) (λ Fs. passed (record { starter = Γ; client = Δ } ∷ Fs)))) Es h in
    let v = next-passed (if_there (check_client q) s.client)
    (λ Δ. next (check_services (suc q) ss) (λ Fs. passed (record { starter = u.0; client = Δ } ∷ Fs))) Es u.2 in
    let w = next-passed (check_services (suc q) ss) (λ Fs. passed (record { starter = u.0; client = v.0 } ∷ Fs)) Es v.2 in (
      record { starter = u.0; client = v.0 },
      w.0,
      there-sound (DerivesStarter q) (check_starter q) (starter-sound q) s.starter u.0 ws.0 u.1,
      there-sound (DerivesClient q) (check_client q) (client-sound q) s.client v.0 ws.1 v.1,
      services-sound (suc q) ss w.0 ws.2 w.1,
      sym (passed-inj w.2),
    )

services-complete : (q : ℕ) (ss : List Service) (Es : List Environments) → WellSortedServices ss → DerivesServices q ss Es
    → check_services q ss ≡ passed Es
unfolding check_services DerivesServices WellSortedServices
services-complete q [] Es ws h = ap passed (sym h)
services-complete q (s ∷ ss) Es ws h =
    next-holds (if_there (check_starter q) s.starter) (λ Γ. next (if_there (check_client q) s.client)
    (λ Δ. next (check_services (suc q) ss) (λ Fs. passed (record { starter = Γ; client = Δ } ∷ Fs)))) h.0.starter
    (there-complete (DerivesStarter q) (check_starter q) (starter-complete q) s.starter h.0.starter ws.0 h.2)
    ∙ (next-holds (if_there (check_client q) s.client)
    (λ Δ. next (check_services (suc q) ss) (λ Fs. passed (record { starter = h.0.starter; client = Δ } ∷ Fs)))
    h.0.client (there-complete (DerivesClient q) (check_client q) (client-complete q) s.client h.0.client ws.1 h.3)
    ∙ (next-holds (check_services (suc q) ss) (λ Fs. passed (record { starter = h.0.starter; client = h.0.client } ∷ Fs)) h.1
    (services-complete (suc q) ss h.1 ws.2 h.4)
    ∙ ap passed (sym h.5)))

-- Outputs ------------------------------------------------------------------------------------------------------------

agrees-sound : (o i : Operation) → T (agrees o i) → Agrees o i
agrees-sound o i h =
    let a = is_subtype o.request i.request in
    let b = implies o.two_way (is_subtype i.reply o.reply) in
    record {
      requests = subtype-sound o.request i.request (and_l a b h);
      replies = λ e. subtype-sound i.reply o.reply (implies-elim o.two_way (is_subtype i.reply o.reply) (and_r a b h) (T_of e));
    }

agrees-complete : (o i : Operation) → RisingOperation o → RisingOperation i → Agrees o i → T (agrees o i)
agrees-complete o i wo wi h =
    and_i (is_subtype o.request i.request) (implies o.two_way (is_subtype i.reply o.reply))
    (subtype-complete o.request i.request wo.0 wi.0 h.requests)
    (implies-intro o.two_way (is_subtype i.reply o.reply)
    (λ t. subtype-complete i.reply o.reply wi.1 wo.1 (h.replies (of_t o.two_way t))))

met-sound : (o : Operation) (m : Optional Operation) → T (agrees_with o m) → AgreesWith o m
met-sound o none h = absurd h
met-sound o (some i) h = agrees-sound o i h

-- The types of the input that is met.
RisingIfMet : Optional Operation → Type 0
RisingIfMet none = Unit {0}
RisingIfMet (some i) = RisingOperation i

met-complete : (o : Operation) (m : Optional Operation) → RisingOperation o → RisingIfMet m → AgreesWith o m → T (agrees_with o m)
unfolding RisingIfMet
met-complete o none wo w h = absurd h
met-complete o (some i) wo w h = agrees-complete o i wo w h

first-rising : (test : Operation → Bool) (l : List Operation) → RisingOperations l → RisingIfMet (first_of test l)
unfolding RisingIfMet RisingOperations first_of
first-rising test [] w = tt
first-rising test (i ∷ l) w = go (test i) w.0 (first-rising test l w.1)
  where
    go : (t : Bool) → RisingOperation i → RisingIfMet (first_of test l) → RisingIfMet (pick t (some i) (first_of test l))
    go true a b = a
    go false a b = b

met-rising : (N : Network) (o : Operation) → RisingOperations N.operations → RisingIfMet (met_input N o)
unfolding met_input
met-rising N o w = first-rising (meets N o) N.operations w

is-output : (d : Direction) → T (same_direction d output) → d ≡ output
is-output input t = absurd t
is-output output t = refl

output-is : (d : Direction) → d ≡ output → T (same_direction d output)
output-is d e = subst (λ (z : Direction). T (same_direction z output)) (sym e) tt

outputs-sound : (N : Network) (l : List Operation) (u : Unit {0}) → check_outputs N l ≡ passed u → OutputsMeet N l
unfolding check_outputs OutputsMeet
outputs-sound N [] u h = tt
outputs-sound N (o ∷ l) u h =
    let a = implies (in_file N o.location) (agrees_with o (met_input N o)) in
    let v = next-passed (with_row o.row (demand (output_meets N o) OutputMismatch (yields (tt {0})))) (λ u. check_outputs N l) u h in
    let w = require-yields (output_meets N o) OutputMismatch (yields (tt {0})) (at_row-passed o.row _ v.0 v.1) in (
      (λ e t. met-sound o (met_input N o) (implies-elim (in_file N o.location) (agrees_with o (met_input N o))
          (implies-elim (same_direction o.direction output) a w.0 (output-is o.direction e)) t)),
      outputs-sound N l u v.2,
    )

outputs-complete : (N : Network) (l : List Operation) → RisingOperations N.operations → RisingOperations l → OutputsMeet N l
    → check_outputs N l ≡ passed (tt {0})
unfolding check_outputs OutputsMeet RisingOperations
outputs-complete N [] w wl h = refl
outputs-complete N (o ∷ l) w wl h =
    next-holds (with_row o.row (demand (output_meets N o) OutputMismatch (yields (tt {0})))) (λ u. check_outputs N l) (tt {0})
    (ap (with_row o.row) (require-holds (output_meets N o) OutputMismatch (yields (tt {0}))
    (implies-intro (same_direction o.direction output) (implies (in_file N o.location) (agrees_with o (met_input N o)))
    (λ d. implies-intro (in_file N o.location) (agrees_with o (met_input N o))
    (λ t. met-complete o (met_input N o) wl.0 (met-rising N o w) (h.0 (is-output o.direction d) t))))))
    ∙ outputs-complete N l w wl.1 h.1

-- The network --------------------------------------------------------------------------------------------------------

-- What follows the services, and what follows the outputs.
after_services : Network → List Environments → Checked (List Environments)
after_services N Es = next (check_outputs N N.operations) (λ u. next (check_keys N N.operations) (λ v. passed Es))

after_outputs : Network → List Environments → Checked (List Environments)
after_outputs N Es = next (check_keys N N.operations) (λ v. passed Es)

pub checked-derived : (N : Network) (Es : List Environments) → WellSortedNetwork N → check_network N ≡ passed Es → DerivesNetwork N Es
unfolding check_network after_services after_outputs
checked-derived N Es ws h =
    let u = next-passed (check_services 0 N.services) (after_services N) Es h in
    let v = next-passed (check_outputs N N.operations) (λ v. after_outputs N u.0) Es u.2 in
    let w = next-passed (check_keys N N.operations) (λ v. passed u.0) Es v.2 in
    record {
      services = subst (DerivesServices 0 N.services) (passed-inj w.2) (services-sound 0 N.services u.0 ws.in_services u.1);
      outputs = outputs-sound N N.operations v.0 v.1;
      keys = keys-sound N N.operations w.0 w.1;
    }

pub derived-checked : (N : Network) (Es : List Environments) → WellSortedNetwork N → DerivesNetwork N Es → check_network N ≡ passed Es
unfolding check_network after_services after_outputs
derived-checked N Es ws h =
    next-holds (check_services 0 N.services) (after_services N) Es (services-complete 0 N.services Es ws.in_services h.services)
    ∙ (next-holds (check_outputs N N.operations) (λ v. after_outputs N Es) (tt {0})
    (outputs-complete N N.operations ws.in_operations ws.in_operations h.outputs)
    ∙ next-holds (check_keys N N.operations) (λ v. passed Es) (tt {0}) (keys-complete N N.operations h.keys))

-- 02: "place the number of the lowest such input's O row, tried after 13": where services and outputs are right, the first unfit input of the list
-- is refused.
pub unfit-refused : (N : Network) (Es : List Environments) → WellSortedNetwork N → DerivesServices 0 N.services Es → OutputsMeet N N.operations
    → (i : ℕ) (o : Operation) → entry i N.operations ≡ some o → UnfitInput N o
    → ((j : ℕ) (p : Operation) → j < i → entry j N.operations ≡ some p → UnfitInput N p → ⊥) → check_network N ≡ refused (UnfitKey o.row)
unfolding check_network after_services after_outputs next
unfit-refused N Es ws ds os i o e u first =
    next-holds (check_services 0 N.services) (after_services N) Es (services-complete 0 N.services Es ws.in_services ds)
    ∙ (next-holds (check_outputs N N.operations) (λ v. after_outputs N Es) (tt {0})
    (outputs-complete N N.operations ws.in_operations ws.in_operations os)
    ∙ ap (λ (x : Checked (Unit {0})). next x (λ v. passed Es)) (keys-refused N N.operations i o e u first))

-- THE THEOREM: for every network whose type ids rise, the checker passes it with the environments Es exactly if the rules
-- derive it with Es.
pub check-is-rules : (N : Network) → WellSortedNetwork N → (Es : List Environments)
    → (check_network N ≡ passed Es → DerivesNetwork N Es) × (DerivesNetwork N Es → check_network N ≡ passed Es)
check-is-rules N ws Es = (checked-derived N Es ws, derived-checked N Es ws)

-- A network has one list of environments.
pub network-one : (N : Network) (Es Fs : List Environments) → WellSortedNetwork N → DerivesNetwork N Es → DerivesNetwork N Fs → Es ≡ Fs
network-one N Es Fs ws h k = passed-inj (sym (derived-checked N Es ws h) ∙ derived-checked N Fs ws k)
