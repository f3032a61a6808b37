-- Where a path leads, at each of the ways out of `locate`.
use mathlib.Core.Path.{◌≡◌, refl, ap, sym, subst, ◌∙◌}
use mathlib.Core.List.{List, [], ◌∷◌}
use mathlib.Core.Bool.{Bool, true, false}
use Prim.Native.Nat.{ℕ, ◌+◌, ◌-◌, ◌≤◌, ◌<◌}
use native.Mathlib.Omega.{arith}
use lib.ListN.{length, get_or, drop}
use Rattle.tree_forest.specs.Compare.{compare}
use Rattle.tree_forest.specs.Forest.{Forest, end, node, tree, absent, find}
use Rattle.tree_forest.specs.ForestLaws.{find-eq, find-lt, find-gt}
use Rattle.tree_forest.specs.Path.{read_steps}
use Rattle.scalar.specs.Value.{Value, value}
use Rattle.tree.specs.Encode.{root_count, encode}
use Rattle.tree.specs.Decode.{head_at}
use Rattle.tree.specs.Ids.{steps, is_none}
use Rattle.tree.specs.IdsLaws.{none_is, steps_next}
use Rattle.tree.specs.Standing.{Row, Ended}
use Rattle.tree.specs.StandingLaws.{row-root, row-kids, row-rest, seen, unseen}
use Rattle.tree.specs.declared.Head.{Head}
use Rattle.tree_part.specs.Span.{earlier, offset}
use Rattle.tree_part.specs.SpanLaws.{steps-absent, earlier-none, earlier-next}
use Rattle.tree_part.specs.Located.{found_at, child_place, Located}
use Rattle.std.specs.Prelude.{Option, Some, None}

-- the cases of `child_place`
pub place-end : (i : ℕ) (is : List ℕ) (at : ℕ) → child_place i is end at ≡ None
unfolding child_place find
place-end i is at = ap (found_at (at + (earlier i end + offset is absent))) (steps-absent is)

module _ (i : ℕ) (is : List ℕ) (at x b : ℕ) (v : List ℕ) (ks rest : Forest Value) where
  pub place-gap : i < x → child_place i is (node x (value b v) ks rest) at ≡ None
  unfolding child_place find
  place-gap l = rw (find-lt (compare i x) l (tree (value b v) ks) (find i rest)) (ap (found_at _) (steps-absent is))

  pub place-on : x < i → child_place i is (node x (value b v) ks rest) at ≡ child_place i is rest (at + length (encode (node x (value b v) ks end)))
  unfolding child_place find
  place-on l =
      let p : at + (length (encode (node x (value b v) ks end)) + earlier i rest + offset is (find i rest)) ≡
      at + length (encode (node x (value b v) ks end)) + (earlier i rest + offset is (find i rest)) = omega arith in
      rw (find-gt (compare i x) l (tree (value b v) ks) (find i rest), earlier-next i x (value b v) ks rest l)
      (ap (λ (z : ℕ). found_at z (read_steps is (find i rest))) p)

pub place-hit : (i at b : ℕ) (v : List ℕ) (ks rest : Forest Value) → child_place i [] (node i (value b v) ks rest) at ≡ Some at
unfolding child_place find offset read_steps
place-hit i at b v ks rest =
    let p : at + 0 ≡ at = omega arith in
    rw (find-eq (compare i i) refl (tree (value b v) ks) (find i rest), earlier-none i i (value b v) ks rest (omega arith)) (ap Some p)

pub place-deep : (i y : ℕ) (ys : List ℕ) (at b : ℕ) (v : List ℕ) (ks rest : Forest Value) →
    child_place i (y ∷ ys) (node i (value b v) ks rest) at ≡ child_place y ys ks (at + 5 + length v)
unfolding child_place find offset read_steps
place-deep i y ys at b v ks rest =
    let p : at + (0 + (5 + length v + (earlier y ks + offset ys (find y ks)))) ≡ at + 5 + length v + (earlier y ks + offset ys (find y ks)) = omega arith in
    rw (find-eq (compare i i) refl (tree (value b v) ks) (find i rest), earlier-none i i (value b v) ks rest (omega arith))
    (ap (λ (z : ℕ). found_at z (read_steps ys (find y ks))) p)

module _ (s : List ℕ) (i : ℕ) (is : List ℕ) (at n : ℕ) where
  abbrev Tells : Option ℕ → Type 0
  Tells r = (f : Forest Value) → Row s at f → root_count f ≡ n → r ≡ child_place i is f at

  pub locate-none : n ≡ 0 → Located s i is at n None
  locate-none z = record { tells = go }
    where
      go : Tells None
      go end w e = sym (place-end i is at)
      go (node j a ks rest) w e = absurd (unfold root_count in omega arith)

  module _ (h : Option Head) (p : h ≡ head_at s at) (z : n ≡ 0 → ⊥) where
    none : {A : Type 0} → root_count {A = Value} end ≡ n → A
    none e = absurd (z (sym (unfold root_count in e)))

    pub locate-fault : h ≡ None → Located s i is at n None
    locate-fault q = record { tells = go }
      where
        go : Tells None
        go end w e = none e
        go (node j (value b v) ks rest) w e = unseen s at j b v ks rest w h p q

    module _ (y : Head) (q : h ≡ Some y) where
      pub locate-gap : i < y.id → Located s i is at n None
      locate-gap l = record { tells = go }
        where
          go : Tells None
          go end w e = none e
          go (node x (value d v) ks rest) w e = sym (place-gap i is at x d v ks rest (omega (arith, (seen s at x d v ks rest w h y.id y.basic y.count y.start p q).id)))

      pub locate-on : (e : ℕ) (r : Option ℕ) → Ended s at e → y.id < i → Located s i is e (n - 1) r → Located s i is at n r
      locate-on e r ex l ih = record { tells = go }
        where
          go : Tells r
          go end w o = none o
          go (node x (value d v) ks rest) w o =
              let u = ex.ends x (tree (value d v) ks) (row-root s at x d v ks rest w) in
              let less : root_count rest ≡ n - 1 = unfold root_count in omega arith in
              ih.tells rest (subst (λ (z : ℕ). Row s z rest) (sym u) (row-rest s at x d v ks rest w)) less
              ∙ ap (child_place i is rest) u ∙ sym (place-on i is at x d v ks rest (omega (arith, (seen s at x d v ks rest w h y.id y.basic y.count y.start p q).id)))

      pub locate-hit : (b : Bool) → y.id ≤ i → i ≤ y.id → b ≡ is_none is → b ≡ true → Located s i is at n (Some at)
      locate-hit b l g o t = record { tells = go }
        where
          go : Tells (Some at)
          go end w f = none f
          go (node x (value d v) ks rest) w f =
              let u = seen s at x d v ks rest w h y.id y.basic y.count y.start p q in
              let xi : x ≡ i = omega (arith, u.id) in
              rw (none_is is (sym o ∙ t), xi) (sym (place-hit i at d v ks rest))

pub locate-deep : (s ids : List ℕ) (k at n : ℕ) (h : Option Head) (y : Head) (b : Bool) (r : Option ℕ) → length ids ≡ 4 → h ≡ head_at s at → (n ≡ 0 → ⊥) →
    h ≡ Some y → y.id ≤ get_or ids k 0 → get_or ids k 0 ≤ y.id → b ≡ is_none (steps (drop (k + 1) ids)) → b ≡ false →
    Located s (get_or ids (k + 1) 0) (steps (drop (k + 1 + 1) ids)) y.start y.count r → Located s (get_or ids k 0) (steps (drop (k + 1) ids)) at n r
locate-deep s ids k at n h y b r four p z q l g o t ih = record { tells = go }
  where
    go : (f : Forest Value) → Row s at f → root_count f ≡ n → r ≡ child_place (get_or ids k 0) (steps (drop (k + 1) ids)) f at
    go end w e = absurd (z (sym (unfold root_count in e)))
    go (node x (value d v) ks rest) w e =
        let u = seen s at x d v ks rest w h y.id y.basic y.count y.start p q in
        let xi : x ≡ get_or ids k 0 = omega (arith, u.id) in
        ih.tells ks (subst (λ (z : ℕ). Row s z ks) (sym u.next) (row-kids s at x d v ks rest w)) (sym u.count)
        ∙ rw (u.next, (steps_next ids k four (sym o ∙ t)).1, xi)
        (sym (place-deep (get_or ids k 0) (get_or ids (k + 1) 0) (steps (drop (k + 1 + 1) ids)) at d v ks rest))

-- a step that is not the last is followed by one
pub next-step : (ids : List ℕ) (k : ℕ) (y : Bool) → length ids ≡ 4 → y ≡ is_none (steps (drop (k + 1) ids)) → y ≡ false → k + 1 < 4
next-step ids k y four o t = (steps_next ids k four (sym o ∙ t)).0

pub ruleset locate-laws = (locate-none, locate-fault, locate-gap, locate-on, locate-hit, locate-deep)
