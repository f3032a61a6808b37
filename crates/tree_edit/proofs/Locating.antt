-- Where a path leads, at each of the ways out of `locate`.
use mathlib.Core.Path.{◌≡◌, refl, ap, sym, subst, ◌∙◌}
use mathlib.Core.List.{List, [], ◌∷◌}
use mathlib.Core.Bool.{Bool, true, false}
use Prim.Native.Nat.{ℕ, ◌+◌, ◌-◌, ◌≤◌, ◌<◌}
use native.Mathlib.Omega.{arith}
use lib.ListN.{length, get_or, drop}
use borrow.Author.Tests.{lt-ltb, le-ltb}
use Rattle.tree_forest.specs.Forest.{Forest, end, node, tree}
use Rattle.scalar.specs.Value.{Value, value}
use Rattle.tree.specs.Encode.{root_count, encode}
use Rattle.tree.specs.Decode.{head_at}
use Rattle.tree.specs.Ids.{steps, is_none}
use Rattle.tree.specs.IdsLaws.{none_is, steps_next}
use Rattle.tree.specs.Standing.{Row, Ended}
use Rattle.tree.specs.StandingLaws.{row-root, row-kids, row-rest, seen, unseen}
use Rattle.tree.specs.declared.Head.{Head}
use Rattle.tree_edit.specs.Plan.{plan_of, Led}
use Rattle.tree_edit.specs.declared.Plan.{Plan}
use Rattle.tree_edit.specs.declared.Plan.TheVariants.{Insert, Replace, Fail}
use Rattle.std.specs.Prelude.{Option, Some, None}

-- the cases of `plan_of` at a node
module _ (k i : ℕ) (is : List ℕ) (up at x b : ℕ) (v : List ℕ) (ks rest : Forest Value) where
  pub plan-gap : i < x → plan_of k i is (node x (value b v) ks rest) up at ≡ Insert up at k
  plan-gap l = by is
    where
      by : (is : List ℕ) → plan_of k i is (node x (value b v) ks rest) up at ≡ Insert up at k
      by [] = unfold plan_of in rw (lt-ltb i x l) refl
      by (y ∷ ys) = unfold plan_of in rw (lt-ltb i x l) refl

  pub plan-on : x < i → plan_of k i is (node x (value b v) ks rest) up at ≡ plan_of k i is rest up (at + length (encode (node x (value b v) ks end)))
  plan-on l = by is
    where
      by : (is : List ℕ) → plan_of k i is (node x (value b v) ks rest) up at ≡ plan_of k i is rest up (at + length (encode (node x (value b v) ks end)))
      by [] = unfold plan_of in rw (le-ltb i x (omega arith), lt-ltb x i l) refl
      by (y ∷ ys) = unfold plan_of in rw (le-ltb i x (omega arith), lt-ltb x i l) refl

pub plan-hit : (k i up at b : ℕ) (v : List ℕ) (ks rest : Forest Value) →
    plan_of k i [] (node i (value b v) ks rest) up at ≡ Replace at (at + 5 + length v) (at + length (encode (node i (value b v) ks end)))
unfolding plan_of
plan-hit k i up at b v ks rest = rw (le-ltb i i (omega arith)) refl

pub plan-deep : (k i y : ℕ) (ys : List ℕ) (up at b : ℕ) (v : List ℕ) (ks rest : Forest Value) →
    plan_of k i (y ∷ ys) (node i (value b v) ks rest) up at ≡ plan_of (k + 1) y ys ks at (at + 5 + length v)
unfolding plan_of
plan-deep k i y ys up at b v ks rest = rw (le-ltb i i (omega arith)) refl

module _ (s : List ℕ) (k i : ℕ) (is : List ℕ) (up at n : ℕ) where
  abbrev Leads : Plan → Type 0
  Leads r = (f : Forest Value) → Row s at f → root_count f ≡ n → r ≡ plan_of k i is f up at

  pub locate-none : n ≡ 0 → Led s k i is up at n (Insert up at k)
  locate-none z = record { leads = go }
    where
      go : Leads (Insert up at k)
      go end w e = unfold plan_of in refl
      go (node j a ks rest) w e = absurd (unfold root_count in omega arith)

  module _ (h : Option Head) (p : h ≡ head_at s at) (z : n ≡ 0 → ⊥) where
    none : {A : Type 0} → root_count {A = Value} end ≡ n → A
    none e = absurd (z (sym (unfold root_count in e)))

    pub locate-fault : h ≡ None → Led s k i is up at n Fail
    locate-fault q = record { leads = go }
      where
        go : Leads Fail
        go end w e = none e
        go (node j (value b v) ks rest) w e = unseen s at j b v ks rest w h p q

    module _ (y : Head) (q : h ≡ Some y) where
      pub locate-gap : i < y.id → Led s k i is up at n (Insert up at k)
      locate-gap l = record { leads = go }
        where
          go : Leads (Insert up at k)
          go end w e = none e
          go (node x (value d v) ks rest) w e = sym (plan-gap k i is up at x d v ks rest (omega (arith, (seen s at x d v ks rest w h y.id y.basic y.count y.start p q).id)))

      pub locate-on : (e : ℕ) (r : Plan) → Ended s at e → y.id < i → Led s k i is up e (n - 1) r → Led s k i is up at n r
      locate-on e r ex l ih = record { leads = go }
        where
          go : Leads r
          go end w o = none o
          go (node x (value d v) ks rest) w o =
              let u = ex.ends x (tree (value d v) ks) (row-root s at x d v ks rest w) in
              let less : root_count rest ≡ n - 1 = unfold root_count in omega arith in
              ih.leads rest (subst (λ (z : ℕ). Row s z rest) (sym u) (row-rest s at x d v ks rest w)) less
              ∙ ap (plan_of k i is rest up) u ∙ sym (plan-on k i is up at x d v ks rest (omega (arith, (seen s at x d v ks rest w h y.id y.basic y.count y.start p q).id)))

      pub locate-hit : (e : ℕ) (b : Bool) → Ended s at e → y.id ≤ i → i ≤ y.id → b ≡ is_none is → b ≡ true → Led s k i is up at n (Replace at y.start e)
      locate-hit e b ex l g o t = record { leads = go }
        where
          go : Leads (Replace at y.start e)
          go end w f = none f
          go (node x (value d v) ks rest) w f =
              let u = seen s at x d v ks rest w h y.id y.basic y.count y.start p q in
              let xi : x ≡ i = omega (arith, u.id) in
              rw (ex.ends x (tree (value d v) ks) (row-root s at x d v ks rest w), u.next, none_is is (sym o ∙ t), xi) (sym (plan-hit k i up at d v ks rest))

pub locate-deep : (s ids : List ℕ) (k up at n : ℕ) (h : Option Head) (y : Head) (b : Bool) (r : Plan) → length ids ≡ 4 → h ≡ head_at s at → (n ≡ 0 → ⊥) → h ≡ Some y →
    y.id ≤ get_or ids k 0 → get_or ids k 0 ≤ y.id → b ≡ is_none (steps (drop (k + 1) ids)) → b ≡ false →
    Led s (k + 1) (get_or ids (k + 1) 0) (steps (drop (k + 1 + 1) ids)) at y.start y.count r → Led s k (get_or ids k 0) (steps (drop (k + 1) ids)) up at n r
locate-deep s ids k up at n h y b r four p z q l g o t ih = record { leads = go }
  where
    go : (f : Forest Value) → Row s at f → root_count f ≡ n → r ≡ plan_of k (get_or ids k 0) (steps (drop (k + 1) ids)) f up at
    go end w e = absurd (z (sym (unfold root_count in e)))
    go (node x (value d v) ks rest) w e =
        let u = seen s at x d v ks rest w h y.id y.basic y.count y.start p q in
        let xi : x ≡ get_or ids k 0 = omega (arith, u.id) in
        ih.leads ks (subst (λ (z : ℕ). Row s z ks) (sym u.next) (row-kids s at x d v ks rest w)) (sym u.count)
        ∙ rw (u.next, (steps_next ids k four (sym o ∙ t)).1, xi) (sym (plan-deep k (get_or ids k 0) (get_or ids (k + 1) 0) (steps (drop (k + 1 + 1) ids)) up at d v ks rest))

pub ruleset locate-laws = (locate-none, locate-fault, locate-gap, locate-on, locate-hit)
