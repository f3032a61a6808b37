-- The empty environment, paths of P rows, and where a path leads, at each of the ways out of the code.
use mathlib.Core.Path.{◌≡◌, refl, ap, sym, subst, ◌∙◌}
use mathlib.Core.List.{List, [], ◌∷◌}
use mathlib.Core.Bool.{Bool, true, false, ◌&&◌}
use Prim.Native.Nat.{ℕ, ◌+◌, ◌-◌, ◌≤◌, ◌<◌}
use native.Mathlib.Omega.{arith}
use lib.ListN.{length, get_or, drop, set, replicate}
use Rattle.tree_forest.specs.Compare.{compare}
use Rattle.tree_forest.specs.Forest.{Forest, end, node, tree, absent, present, find, map_forest}
use Rattle.tree_forest.specs.ForestLaws.{find-eq, find-lt, find-gt}
use Rattle.tree_forest.specs.Path.{Path, path, read}
use Rattle.refusal.specs.declared.Refusal.{Refusal}
use Rattle.scalar.specs.Basic.{void}
use Rattle.scalar.specs.Value.{Value, value}
use Rattle.network_syntax.specs.Syntax.{Mark, mark, Types}
use Rattle.check_typing.specs.Result.{refused}
use Rattle.check_typing.specs.Environment.{firm_above_steps, firm_above}
use Rattle.network.specs.Decode as network
use Rattle.network.specs.Layout.{path_at}
use Rattle.wire.specs.Wire.{u16_at}
use Rattle.tree.specs.Encode.{root_count, encode}
use Rattle.tree.specs.Decode.{head_at}
use Rattle.tree.specs.Ids.{steps, path_from_ids, is_none}
use Rattle.tree.specs.IdsLaws.{none_is, steps_next, path-at}
use Rattle.tree.specs.Standing.{Row, Root, Ended}
use Rattle.tree.specs.StandingLaws.{row-root, row-kids, row-rest, root-kids, root-seen, root-unseen, row_moved}
use Rattle.tree.specs.declared.Head.{Head}
use Rattle.tree_edit.specs.ForestWrite.{read_none, read-gap, read-on, read-hit, read-deep}
use Rattle.check_types.specs.Image.{image, types_as, type_head_at}
use Rattle.check_types.specs.ImageLaws as types
use Rattle.check_types.specs.declared.TypeHead.{TypeHead}
use Rattle.network_row_parts.specs.PathLaws as paths
use Rattle.network_rows.specs.Readers.{path_ids}
use Rattle.check_environments.specs.declared.Environment.{Environment}
use Rattle.check_environments.specs.declared.Reach.{Reach}
use Rattle.check_environments.specs.declared.Reach.TheVariants.{Here, Gap, Loose}
use Rattle.check_environments.specs.Environment.{tree_of, bytes_for, standing}
use Rattle.check_environments.specs.Walk.{SeenAt, Sees, Looked, WalkReached}
use Rattle.std.specs.Prelude.{Option, Some, None}
use Rattle.std.specs.Prelude.{Result, Ok, Err}
use Rattle.tree.specs.Decode.{header}
use Rattle.check_types.specs.Image.{type_header}

-- ---- the empty environment

pub empty-is : record { bytes = set (replicate 512 0) 2 6; len = 5 } ≡ standing end
unfolding standing bytes_for encode root_count map_forest
empty-is = refl

-- ---- the path of a P row

pub path-is : (file : List ℕ) (p : ℕ) → path_from_ids (path_ids file p) ≡ network.path_of file p
unfolding path_ids
path-is file p = paths.path-is file p

pub ids-four : (file : List ℕ) (p : ℕ) → length (path_ids file p) ≡ 4
unfolding path_ids
ids-four file p = refl

-- ---- edges above a path's end, at the first node

firm-none : (is : List ℕ) → firm_above_steps is absent ≡ true
unfolding firm_above_steps
firm-none [] = refl
firm-none (j ∷ p) = refl

firm-gap : (i : ℕ) (is : List ℕ) (j : ℕ) (a : Mark) (k r : Types) → i < j → firm_above (path i is) (node j a k r) ≡ true
unfolding find
firm-gap i is j a k r l = ap (firm_above_steps is) (find-lt (compare i j) l (tree a k) (find i r)) ∙ firm-none is

firm-on : (i : ℕ) (is : List ℕ) (j : ℕ) (a : Mark) (k r : Types) → j < i → firm_above (path i is) (node j a k r) ≡ firm_above (path i is) r
unfolding find
firm-on i is j a k r l = ap (firm_above_steps is) (find-gt (compare i j) l (tree a k) (find i r))

firm-hit : (i : ℕ) (Γ : Types) → firm_above (path i []) Γ ≡ true
unfolding firm_above_steps
firm-hit i Γ = refl

firm-deep : (i x : ℕ) (xs : List ℕ) (m : Bool) (b : ℕ) (k r : Types) → firm_above (path i (x ∷ xs)) (node i (mark m b) k r) ≡ (m && firm_above (path x xs) k)
unfolding find firm_above_steps
firm-deep i x xs m b k r = ap (firm_above_steps (x ∷ xs)) (find-eq (compare i i) refl (tree (mark m b) k) (find i r))

-- ---- what is seen at the first node

sees-gap : (s : List ℕ) (i : ℕ) (is : List ℕ) (j : ℕ) (a : Mark) (k r : Types) → i < j → Sees s Gap (path i is) (node j a k r)
sees-gap s i is j a k r l = record { none = read-gap i is j a k r l; firm = firm-gap i is j a k r l }

sees-on : (s : List ℕ) (w : Reach) (i : ℕ) (is : List ℕ) (j : ℕ) (a : Mark) (k r : Types) → j < i → Sees s w (path i is) r → Sees s w (path i is) (node j a k r)
sees-on s (Here p) i is j a k r l h = record { id = h.id; held = h.held; root = h.root; there = read-on i is j a k r l ∙ h.there; firm = firm-on i is j a k r l ∙ h.firm }
sees-on s Gap i is j a k r l h = record { none = read-on i is j a k r l ∙ h.none; firm = firm-on i is j a k r l ∙ h.firm }
sees-on s Loose i is j a k r l h = firm-on i is j a k r l ∙ h

firm-by : (i x : ℕ) (xs : List ℕ) (m : Bool) (b : ℕ) (k r : Types) (t : Bool) → m ≡ true → firm_above (path x xs) k ≡ t → firm_above (path i (x ∷ xs)) (node i (mark m b) k r) ≡ t
firm-by i x xs m b k r t e h = firm-deep i x xs m b k r ∙ rw (e, h) refl

sees-deep : (s : List ℕ) (w : Reach) (i x : ℕ) (xs : List ℕ) (m : Bool) (b : ℕ) (k r : Types) → m ≡ true → Sees s w (path x xs) k → Sees s w (path i (x ∷ xs)) (node i (mark m b) k r)
sees-deep s (Here p) i x xs m b k r e h = record {
  id = h.id;
  held = h.held;
  root = h.root;
  there = read-deep i x xs (mark m b) k r ∙ h.there;
  firm = firm-by i x xs m b k r true e h.firm;
}
sees-deep s Gap i x xs m b k r e h = record { none = read-deep i x xs (mark m b) k r ∙ h.none; firm = firm-by i x xs m b k r true e h.firm }
sees-deep s Loose i x xs m b k r e h = firm-by i x xs m b k r false e h

loose-by : (i x : ℕ) (xs : List ℕ) (m : Bool) (b : ℕ) (k r : Types) → m ≡ false → firm_above (path i (x ∷ xs)) (node i (mark m b) k r) ≡ false
loose-by i x xs m b k r e = firm-deep i x xs m b k r ∙ rw e refl

sees-end : (s : List ℕ) (i : ℕ) (is : List ℕ) → Sees s Gap (path i is) end
unfolding find
sees-end s i is = record { none = read_none is; firm = firm-none is }

sees : (s : List ℕ) (r : Reach) (x : Path) {Γ Δ : Types} → Γ ≡ Δ → Sees s r x Δ → Sees s r x Γ
sees s r x e h = subst (Sees s r x) (sym e) h

-- ---- the ways out of look_up

module _ (s : List ℕ) (i : ℕ) (is : List ℕ) (at n : ℕ) where
  pub look_none : n ≡ 0 → Looked s i is at n Gap
  unfolding root_count map_forest
  look_none z = record { looks = go }
    where
      go : (v : Forest Value) → Row s at v → root_count v ≡ n → Sees s Gap (path i is) (types_as false v)
      go end w e = sees-end s i is
      go (node x a ks rest) w e = absurd (omega arith)

  module _ (z : n ≡ 0 → ⊥) (h : Option TypeHead) (p : h ≡ type_head_at false s at) where
    pub look-fault : h ≡ None → Looked s i is at n Loose
    unfolding root_count
    look-fault q = record { looks = go }
      where
        go : (v : Forest Value) → Row s at v → root_count v ≡ n → Sees s Loose (path i is) (types_as false v)
        go end w e = absurd (z (sym e))
        go (node x (value d v) ks rest) w e = types.type-unseen false s at x d v ks rest w h p q

    module _ (head : TypeHead) (q : h ≡ Some head) where
      pub look-gap : i < head.id → Looked s i is at n Gap
      unfolding root_count
      look-gap l = record { looks = go }
        where
          go : (v : Forest Value) → Row s at v → root_count v ≡ n → Sees s Gap (path i is) (types_as false v)
          go end w e = absurd (z (sym e))
          go (node x (value d v) ks rest) w e =
              let u = types.type-seen false s at x d v ks rest w h head.id head.mandatory head.basic head.count head.start p q in
              sees s Gap (path i is) u.whole (sees-gap s i is head.id (mark head.mandatory head.basic) (types_as false ks) (types_as false rest) l)

      pub look-on : head.id < i → (e : ℕ) (r : Reach) → Ended s at e → Looked s i is e (n - 1) r → Looked s i is at n r
      unfolding root_count
      look-on l e r en ih = record { looks = go }
        where
          go : (v : Forest Value) → Row s at v → root_count v ≡ n → Sees s r (path i is) (types_as false v)
          go end w k = absurd (z (sym k))
          go (node x (value d v) ks rest) w k =
              let u = types.type-seen false s at x d v ks rest w h head.id head.mandatory head.basic head.count head.start p q in
              let le = en.ends x (tree (value d v) ks) (row-root s at x d v ks rest w) in
              sees s r (path i is) u.whole (sees-on s r i is head.id (mark head.mandatory head.basic) (types_as false ks) (types_as false rest) l
              (ih.looks rest (row_moved s e _ rest le (row-rest s at x d v ks rest w)) (omega arith)))

      pub look_hit : head.id ≤ i → i ≤ head.id → (t : Bool) → t ≡ is_none is → t ≡ true → Looked s i is at n (Here at)
      unfolding root_count
      look_hit l g t y o = record { looks = go }
        where
          here : (x d : ℕ) (v : List ℕ) (ks rest : Forest Value) → Row s at (node x (value d v) ks rest) → (is' : List ℕ) → is' ≡ [] →
              SeenAt s at (path i is') (node head.id (mark head.mandatory head.basic) (types_as false ks) (types_as false rest))
          here x d v ks rest w is' ei =
              let u = types.type-seen false s at x d v ks rest w h head.id head.mandatory head.basic head.count head.start p q in
              let ij : head.id ≡ i = omega arith in
              record {
                id = x;
                held = tree (value d v) ks;
                root = row-root s at x d v ks rest w;
                there = ap (λ (k : List ℕ). read (path i k) (node head.id (mark head.mandatory head.basic) (types_as false ks) (types_as false rest))) ei
                    ∙ ap (λ (k : ℕ). read (path i []) (node k (mark head.mandatory head.basic) (types_as false ks) (types_as false rest))) ij
                    ∙ read-hit i (mark head.mandatory head.basic) (types_as false ks) (types_as false rest)
                    ∙ ap (λ (a : Mark). present (tree a (types_as false ks))) u.type;
                firm = ap (λ (k : List ℕ). firm_above (path i k) (node head.id (mark head.mandatory head.basic) (types_as false ks) (types_as false rest))) ei
                    ∙ firm-hit i (node head.id (mark head.mandatory head.basic) (types_as false ks) (types_as false rest));
              }

          go : (v : Forest Value) → Row s at v → root_count v ≡ n → Sees s (Here at) (path i is) (types_as false v)
          go end w k = absurd (z (sym k))
          go (node x (value d v) ks rest) w k =
              let u = types.type-seen false s at x d v ks rest w h head.id head.mandatory head.basic head.count head.start p q in
              sees s (Here at) (path i is) u.whole (here x d v ks rest w is (none_is is (sym y ∙ o)))

      deeper : head.id ≤ i → i ≤ head.id → (x : ℕ) (xs : List ℕ) → is ≡ x ∷ xs → (r : Reach) → ((ks rest : Forest Value) → Sees s r (path i (x ∷ xs)) (node i (mark head.mandatory head.basic) (types_as false ks) (types_as false rest))
          → Sees s r (path i is) (node head.id (mark head.mandatory head.basic) (types_as false ks) (types_as false rest)))
      deeper l g x xs e r ks rest k =
          let ij : head.id ≡ i = omega arith in
          subst (λ (y : List ℕ). Sees s r (path i y) (node head.id (mark head.mandatory head.basic) (types_as false ks) (types_as false rest))) (sym e)
          (subst (λ (y : ℕ). Sees s r (path i (x ∷ xs)) (node y (mark head.mandatory head.basic) (types_as false ks) (types_as false rest))) (sym ij) k)

      stuck : head.id ≤ i → i ≤ head.id → (x : ℕ) (xs : List ℕ) → is ≡ x ∷ xs → head.mandatory ≡ false → Looked s i is at n Loose
      unfolding root_count
      stuck l g x xs e o = record { looks = go }
        where
          go : (v : Forest Value) → Row s at v → root_count v ≡ n → Sees s Loose (path i is) (types_as false v)
          go end w k = absurd (z (sym k))
          go (node y (value d v) ks rest) w k =
              let u = types.type-seen false s at y d v ks rest w h head.id head.mandatory head.basic head.count head.start p q in
              sees s Loose (path i is) u.whole (deeper l g x xs e Loose ks rest (loose-by i x xs head.mandatory head.basic (types_as false ks) (types_as false rest) o))

      down_to : head.id ≤ i → i ≤ head.id → (x : ℕ) (xs : List ℕ) → is ≡ x ∷ xs → head.mandatory ≡ true → (r : Reach) → Looked s x xs head.start head.count r → Looked s i is at n r
      unfolding root_count
      down_to l g x xs e o r ih = record { looks = go }
        where
          go : (v : Forest Value) → Row s at v → root_count v ≡ n → Sees s r (path i is) (types_as false v)
          go end w k = absurd (z (sym k))
          go (node y (value d v) ks rest) w k =
              let u = types.type-seen false s at y d v ks rest w h head.id head.mandatory head.basic head.count head.start p q in
              sees s r (path i is) u.whole (deeper l g x xs e r ks rest (sees-deep s r i x xs head.mandatory head.basic (types_as false ks) (types_as false rest) o
              (ih.looks ks (row_moved s head.start _ ks u.next (row-kids s at y d v ks rest w)) (sym u.kids))))

pub ruleset look-laws = (look_none, look-fault, look-gap, look-on, look_hit)

module _ (s ids : List ℕ) (four : length ids ≡ 4) (k at n : ℕ) (h : Option TypeHead) (z : n ≡ 0 → ⊥) (p : h ≡ type_head_at false s at) (head : TypeHead)
    (q : h ≡ Some head) (l : head.id ≤ get_or ids k 0) (g : get_or ids k 0 ≤ head.id) (t : Bool) (y : t ≡ is_none (steps (drop (k + 1) ids))) (o : t ≡ false) where
  pub look-loose : head.mandatory ≡ false → Looked s (get_or ids k 0) (steps (drop (k + 1) ids)) at n Loose
  look-loose u = stuck s _ _ at n z h p head q l g _ _ (steps_next ids k four (sym y ∙ o)).1 u

  pub look-deep : head.mandatory ≡ true → (r : Reach) → Looked s (get_or ids (k + 1) 0) (steps (drop (k + 1 + 1) ids)) head.start head.count r → Looked s (get_or ids k 0) (steps (drop (k + 1) ids)) at n r
  look-deep u r ih = down_to s _ _ at n z h p head q l g _ _ (steps_next ids k four (sym y ∙ o)).1 u r ih

-- ---- the path of a P row in an environment

module _ (file s : List ℕ) (p : ℕ) (h : Option Head) (q : h ≡ head_at s 0) where
  pub reach-fault : h ≡ None → WalkReached file s p Loose
  reach-fault e = record { tells = λ Γ w. root-unseen s 0 0 (tree_of Γ) w h q e }

  pub reach-on : (ids : List ℕ) → ids ≡ path_ids file p → (top : Head) → h ≡ Some top → (r : Reach) → Looked s (get_or ids 0 0) (steps (drop 1 ids)) top.start top.count r → WalkReached file s p r
  reach-on ids d top e r l = record { tells = go }
    where
      four : length ids ≡ 4
      four = ap length d ∙ ids-four file p

      go : (Γ : Types) → Root s 0 0 (tree_of Γ) → Sees s r (network.path_of file p) Γ
      go Γ w =
          let u = root-seen s 0 0 void [] (image Γ) w h top.id top.basic top.count top.start q e in
          let v = l.looks (image Γ) (row_moved s top.start _ (image Γ) u.next (root-kids s 0 0 void [] (image Γ) w)) (sym u.count) in
          let v1 = subst (Sees s r (path (get_or ids 0 0) (steps (drop 1 ids)))) (types.image-back Γ) v in
          subst (λ (x : Path). Sees s r x Γ) (sym (path-at ids four) ∙ ap path_from_ids d ∙ path-is file p) v1

pub ruleset reach-laws = (reach-fault, reach-on)
