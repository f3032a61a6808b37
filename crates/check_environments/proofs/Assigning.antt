-- Assigning where a type stands, at each of the ways out of the code.
use mathlib.Core.Path.{◌≡◌, refl, ap, sym, subst, ◌∙◌}
use mathlib.Core.List.{List}
use mathlib.Core.Bool.{Bool, true, false, not, ◌&&◌, ◌||◌}
use Prim.Native.Nat.{ℕ, ◌-◌}
use native.Mathlib.Omega.{arith}
use lib.Dec.{eqb}
use borrow.Author.Tests.{eq-eqb, ne_eqb, le-leb}
use Rattle.tree_forest.specs.Forest.{Forest, end, node, Tree, tree, present, nodes, levels, map_forest}
use Rattle.tree_forest.specs.Path.{Path}
use Rattle.refusal.specs.declared.Refusal.TheVariants.{PathNotFirm, TypeMisfit, EnvironmentTooLarge}
use Rattle.scalar.specs.Value.{Value, value}
use Rattle.network_syntax.specs.Syntax.{Mark, mark, Types}
use Rattle.check_typing.specs.Result.{Attempt, yields, demand, Checked, refused, passed, with_row}
use Rattle.check_typing.specs.Environment.{within, no_mandatory, assign_at}
use Rattle.check_typing.specs.Checker.{limited}
use Rattle.tree.specs.Encode.{root_count}
use Rattle.tree.specs.Standing.{Row, Root, Ended}
use Rattle.tree.specs.StandingLaws.{row-root, row-rest, root-kids, row_moved}
use Rattle.check_types.specs.Image.{types_as, type_as, type_head_at}
use Rattle.check_types.specs.ImageLaws.{type-seen, type-unseen, root-type-seen, root-type-unseen}
use Rattle.check_types.specs.declared.TypeHead.{TypeHead}
use Rattle.check_environments.specs.declared.Environment.{Environment}
use Rattle.check_environments.specs.Environment.{Shape, EnvironmentFor, step_of, StepAnswers}
use Rattle.check_environments.specs.EnvironmentLaws.{answers-as, answers-pass, answers-refuse}
use Rattle.check_environments.specs.Walk.{NoneMandatory, AssignsAt}
use Rattle.std.specs.Prelude.{Option, Some, None}
use Rattle.std.specs.Prelude.{Result, Ok, Err}
use Rattle.check_types.specs.Image.{type_header}
use Rattle.refusal.specs.declared.Refusal.{Refusal}

-- ---- the ways out of no_mandatory

mandatory-as : (F : Types) (i : ℕ) (m : Bool) (b : ℕ) (k r : Types) → F ≡ node i (mark m b) k r → no_mandatory F ≡ (not m && no_mandatory r)
unfolding no_mandatory
mandatory-as F i m b k r e = rw e refl

module _ (s : List ℕ) (at n : ℕ) where
  pub free-none : n ≡ 0 → NoneMandatory s at n true
  unfolding root_count map_forest no_mandatory
  free-none z = record { tells = go }
    where
      go : (v : Forest Value) → Row s at v → root_count v ≡ n → true ≡ no_mandatory (types_as false v)
      go end w e = refl
      go (node x a ks rest) w e = absurd (omega arith)

  module _ (z : n ≡ 0 → ⊥) (h : Option TypeHead) (p : h ≡ type_head_at false s at) where
    pub free-fault : h ≡ None → NoneMandatory s at n false
    unfolding root_count
    free-fault q = record { tells = go }
      where
        go : (v : Forest Value) → Row s at v → root_count v ≡ n → false ≡ no_mandatory (types_as false v)
        go end w e = absurd (z (sym e))
        go (node x (value d v) ks rest) w e = type-unseen false s at x d v ks rest w h p q

    module _ (head : TypeHead) (q : h ≡ Some head) where
      first-as : (x d : ℕ) (v : List ℕ) (ks rest : Forest Value) → Row s at (node x (value d v) ks rest) →
          no_mandatory (types_as false (node x (value d v) ks rest)) ≡ (not head.mandatory && no_mandatory (types_as false rest))
      first-as x d v ks rest w =
          mandatory-as (types_as false (node x (value d v) ks rest)) head.id head.mandatory head.basic (types_as false ks) (types_as false rest) (type-seen false s at x d v ks rest w h head.id head.mandatory head.basic head.count head.start p q).whole

      pub free-must : not head.mandatory ≡ false → NoneMandatory s at n false
      unfolding root_count
      free-must u = record { tells = go }
        where
          go : (v : Forest Value) → Row s at v → root_count v ≡ n → false ≡ no_mandatory (types_as false v)
          go end w e = absurd (z (sym e))
          go (node x (value d v) ks rest) w e = sym (first-as x d v ks rest w ∙ ap (λ (t : Bool). t && no_mandatory (types_as false rest)) u)

      pub free_on : not head.mandatory ≡ true → (e : ℕ) (x : Bool) → Ended s at e → NoneMandatory s e (n - 1) x → NoneMandatory s at n x
      unfolding root_count
      free_on u e x en ih = record { tells = go }
        where
          go : (v : Forest Value) → Row s at v → root_count v ≡ n → x ≡ no_mandatory (types_as false v)
          go end w c = absurd (z (sym c))
          go (node y (value d v) ks rest) w c =
              let l = en.ends y (tree (value d v) ks) (row-root s at y d v ks rest w) in
              ih.tells rest (row_moved s e _ rest l (row-rest s at y d v ks rest w)) (omega arith)
              ∙ sym (first-as y d v ks rest w ∙ ap (λ (t : Bool). t && no_mandatory (types_as false rest)) u)

pub ruleset free-laws = (free-none, free-fault, free-must, free_on)

-- ---- an environment that stays keeps to the limits

pub shape-within : (Γ : Types) → Shape Γ → within Γ ≡ true
shape-within Γ h = rw (le-leb (nodes Γ) 48 h.few, le-leb (levels Γ) 6 h.shallow) refl

pub stays : (Γ : Types) (row : ℕ) → Shape Γ → with_row row (limited (yields Γ)) ≡ passed Γ
stays Γ row h = ap (λ (t : Bool). with_row row (demand t EnvironmentTooLarge (yields Γ))) (shape-within Γ h)

pub pass-answers : (s : Result Environment Refusal) (e : Environment) (Γ : Types) (row : ℕ) → s ≡ Ok e → EnvironmentFor e Γ →
    StepAnswers s (with_row row (limited (yields Γ)))
pass-answers s e Γ row q h = answers-as (sym (stays Γ row h.shape)) (subst (λ (z : Result Environment Refusal). StepAnswers z (passed Γ)) (sym q) (answers-pass h))

-- ---- a refusal

pub err-answers : (s : Result Environment Refusal) (why : Refusal) → s ≡ Err why → StepAnswers s (refused why)
unfolding step_of
err-answers s why q = answers-refuse why q

-- ---- the ways out of assign_at

module _ (e : Environment) (at b row : ℕ) (s : Result Environment Refusal) (h : Option TypeHead) (p : h ≡ type_head_at false e.bytes at) where
  pub at-fault : h ≡ None → AssignsAt e at b row s
  at-fault q = record { tells = go }
    where
      go : (Γ : Types) (x : Path) (i : ℕ) (t : Tree Value) → EnvironmentFor e Γ → Root e.bytes at i t → StepAnswers s (with_row row (limited (assign_at x b Γ (present (type_as false t)))))
      go Γ x i (tree (value d v) ks) st w = root-type-unseen false e.bytes at i d v ks w h p q

  module _ (head : TypeHead) (q : h ≡ Some head) where
    decides : (Γ : Types) (x : Path) (j d : ℕ) (v : List ℕ) (ks : Forest Value) → Root e.bytes at j (tree (value d v) ks) →
        assign_at x b Γ (present (type_as false (tree (value d v) ks))) ≡ demand (eqb b head.basic) TypeMisfit (demand (head.mandatory || no_mandatory (types_as false ks)) PathNotFirm (yields Γ))
    decides Γ x j d v ks w =
        ap (λ (a : Mark). assign_at x b Γ (present (tree a (types_as false ks)))) (sym (root-type-seen false e.bytes at j d v ks w h head.id head.mandatory head.basic head.count head.start p q).type)

    abbrev after : Types → Bool → Bool → Checked Types
    after Γ same free = with_row row (limited (demand same TypeMisfit (demand free PathNotFirm (yields Γ))))

    after-as : (Γ : Types) (x : Path) (j d : ℕ) (v : List ℕ) (ks : Forest Value) (w : Root e.bytes at j (tree (value d v) ks)) (same free : Bool) →
        eqb b head.basic ≡ same → (head.mandatory || no_mandatory (types_as false ks)) ≡ free → with_row row (limited (assign_at x b Γ (present (type_as false (tree (value d v) ks))))) ≡ after Γ same free
    after-as Γ x j d v ks w same free p1 p2 =
        ap (λ (r : Attempt Types). with_row row (limited r)) (decides Γ x j d v ks w) ∙ ap (λ (t : Bool). after Γ t (head.mandatory || no_mandatory (types_as false ks))) p1 ∙ ap (after Γ same) p2

    pub at_clash : (b ≡ head.basic → ⊥) → s ≡ Err (TypeMisfit row) → AssignsAt e at b row s
    at_clash o z = record { tells = go }
      where
        go : (Γ : Types) (x : Path) (i : ℕ) (t : Tree Value) → EnvironmentFor e Γ → Root e.bytes at i t → StepAnswers s (with_row row (limited (assign_at x b Γ (present (type_as false t)))))
        go Γ x j (tree (value d v) ks) st w = answers-as (sym (after-as Γ x j d v ks w false _ (ne_eqb b head.basic o) refl)) (err-answers s (TypeMisfit row) z)

    pub at-must : b ≡ head.basic → head.mandatory ≡ true → s ≡ Ok e → AssignsAt e at b row s
    at-must o u z = record { tells = go }
      where
        go : (Γ : Types) (x : Path) (i : ℕ) (t : Tree Value) → EnvironmentFor e Γ → Root e.bytes at i t → StepAnswers s (with_row row (limited (assign_at x b Γ (present (type_as false t)))))
        go Γ x j (tree (value d v) ks) st w =
            answers-as (sym (after-as Γ x j d v ks w true true (eq-eqb b head.basic o) (ap (λ (t : Bool). t || no_mandatory (types_as false ks)) u))) (pass-answers s e Γ row z st)

    module _ (o : b ≡ head.basic) (u : head.mandatory ≡ false) (t : Bool) (f : NoneMandatory e.bytes head.start head.count t) where
      free-told : (j d : ℕ) (v : List ℕ) (ks : Forest Value) → Root e.bytes at j (tree (value d v) ks) → (head.mandatory || no_mandatory (types_as false ks)) ≡ t
      free-told j d v ks w =
          let y = root-type-seen false e.bytes at j d v ks w h head.id head.mandatory head.basic head.count head.start p q in
          ap (λ (r : Bool). r || no_mandatory (types_as false ks)) u
          ∙ sym (f.tells ks (row_moved e.bytes head.start _ ks y.next (root-kids e.bytes at j d v ks w)) (sym y.kids))

      pub at-free : t ≡ true → s ≡ Ok e → AssignsAt e at b row s
      at-free n z = record { tells = go }
        where
          go : (Γ : Types) (x : Path) (i : ℕ) (t : Tree Value) → EnvironmentFor e Γ → Root e.bytes at i t → StepAnswers s (with_row row (limited (assign_at x b Γ (present (type_as false t)))))
          go Γ x j (tree (value d v) ks) st w =
              answers-as (sym (after-as Γ x j d v ks w true true (eq-eqb b head.basic o) (free-told j d v ks w ∙ n))) (pass-answers s e Γ row z st)

      pub at_bound : t ≡ false → s ≡ Err (PathNotFirm row) → AssignsAt e at b row s
      at_bound n z = record { tells = go }
        where
          go : (Γ : Types) (x : Path) (i : ℕ) (t : Tree Value) → EnvironmentFor e Γ → Root e.bytes at i t → StepAnswers s (with_row row (limited (assign_at x b Γ (present (type_as false t)))))
          go Γ x j (tree (value d v) ks) st w =
              answers-as (sym (after-as Γ x j d v ks w true false (eq-eqb b head.basic o) (free-told j d v ks w ∙ n))) (err-answers s (PathNotFirm row) z)

pub ruleset at-laws = (at-fault, at_clash, at-must, at-free, at_bound)
