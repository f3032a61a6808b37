-- The union of environments, root by root, at each of the ways out of the code.
use mathlib.Core.Path.{◌≡◌, refl, ap, sym, subst, ◌∙◌}
use mathlib.Core.List.{List, [], ◌∷◌}
use mathlib.Core.Bool.{Bool, true, false}
use Prim.Native.Nat.{ℕ, suc, ◌+◌, ◌-◌, ◌*◌, ◌/◌, ◌%◌, ◌<◌}
use native.Mathlib.Omega.{arith}
use lib.ListN.{length, take, drop}
use lib.Seq.{drop-drop}
use Rattle.basics.specs.ListLaws.{take-later}
use Rattle.tree_forest.specs.Forest.{end, node, Tree, tree, node_of, find, set, Above, Rising, measure, nodes, map_forest, map_tree}
use Rattle.tree_forest.specs.Path.{write_steps, replace_at}
use Rattle.refusal.specs.declared.Refusal.{Refusal}
use Rattle.refusal.specs.declared.Refusal.TheVariants.{EnvironmentTooLarge}
use Rattle.scalar.specs.Basic.{void}
use Rattle.scalar.specs.Value.{Value, value}
use Rattle.network_syntax.specs.Syntax.{Mark, mark, Types, MessageType}
use Rattle.check_subtyping.specs.Subtype.{root_children}
use Rattle.check_typing.specs.Result.{yields, demand, refused, passed, with_row}
use Rattle.check_typing.specs.Environment.{within, missing_step}
use Rattle.check_typing.specs.Checker.{limited}
use Rattle.check_typing.specs.NetworkRules.{union}
use Rattle.check_typing.specs.NetworkChecker.{one_type_at, one_type}
use Rattle.tree.specs.Encode.{root_count, encode, rooted}
use Rattle.tree.specs.Decode.{head_at}
use Rattle.tree.specs.EncodeLaws.{length-node}
use Rattle.tree.specs.Ids.{steps, path_from_ids}
use Rattle.tree.specs.Standing.{Row, Root, Ended}
use Rattle.tree.specs.StandingLaws.{row-root, row-rest, root-kids, root-inside, root-part, seen, unseen, root-seen, root-unseen, row_moved}
use Rattle.tree.specs.declared.Head.{Head}
use Rattle.tree_edit.specs.Wrote.{Wrote}
use Rattle.tree_edit.specs.WroteLaws.{wrote-more}
use Rattle.check_types.specs.Image.{flag, mark_value, image, InRange}
use Rattle.check_types.specs.ImageLaws.{length-image}
use Rattle.check_environments.specs.declared.Environment.{Environment}
use Rattle.check_environments.specs.Environment.{tree_of, Shape, EnvironmentFor, StepAnswers}
use Rattle.check_environments.specs.EnvironmentLaws.{answers-as, answers-done, answers-refused, stands-root}
use Rattle.check_environments.specs.UnionLaws.{one-parts, root-within}
use Rattle.check_environments.specs.Walk.{Placeable, Grows, PutsRoot, UnitesFrom}
use Rattle.check_environments.specs.Tells.{Unites}
use Rattle.check_environments.proofs.Assigning.{pass-answers}
use Rattle.std.specs.Prelude.{Option, Some, None}
use Rattle.std.specs.Prelude.{Result, Ok, Err}
use Rattle.tree.specs.Decode.{header}

-- ---- a root put in

node-length : (i : ℕ) (t : MessageType) → length (encode (node_of i (map_tree mark_value t) end)) ≡ 7 + 7 * nodes (root_children t)
unfolding encode
node-length i (tree (mark m b) k) = length-node i 5 (flag m ∷ b ∷ []) (image k) end ∙ omega (arith, length-image k)

rooted-bytes : (i : ℕ) (t : Tree Value) → encode (rooted t) ≡ 0 % 256 ∷ 0 / 256 ∷ drop 2 (encode (node_of i t end))
unfolding encode
rooted-bytes i (tree (value b v) ks) = refl

root-path : (i : ℕ) (t : MessageType) (Δ : Types) → replace_at missing_step (path_from_ids (i ∷ 0 ∷ 0 ∷ 0 ∷ [])) t Δ ≡ set i t Δ
unfolding path_from_ids steps write_steps
root-path i t Δ = refl

module _ (b : List ℕ) (at e i : ℕ) (f : Environment) (row : ℕ) (s : Result Environment Refusal) where
  pub put-past : length b < e → PutsRoot b at e i f row s
  put-past l = record { tells = λ Δ t st w q p pl. absurd (omega (arith, root-inside b at i (map_tree mark_value t) w)) }

  pub put-short : e < 5 → PutsRoot b at e i f row s
  put-short l = record { tells = λ Δ t st w q p pl. absurd (omega (arith, node-length i t)) }

  pub put_back : e - 5 < at → PutsRoot b at e i f row s
  put_back l = record { tells = λ Δ t st w q p pl. absurd (omega (arith, node-length i t)) }

  pub put-long : 341 < e - at → PutsRoot b at e i f row s
  put-long l = record { tells = λ Δ t st w q p pl. absurd (omega (arith, node-length i t, pl.few)) }

  pub put_on : (o o₁ o₂ : List ℕ) (a k : ℕ) → Wrote o o₁ 0 a 2 (0 % 256 ∷ 0 / 256 ∷ []) → Wrote o₁ o₂ a k (e - at - 2) (take (e - at - 2) (drop (at + 2) b)) →
      Grows f (i ∷ 0 ∷ 0 ∷ 0 ∷ []) (take k o₂) row s → PutsRoot b at e i f row s
  put_on o o₁ o₂ a k x y h = record { tells = go }
    where
      go : (Δ : Types) (t : MessageType) → EnvironmentFor f Δ → Root b at i (map_tree mark_value t) → e ≡ at + length (encode (node_of i (map_tree mark_value t) end)) → 0 < i → Placeable t →
          StepAnswers s (with_row row (limited (yields (set i t Δ))))
      go Δ t st w q p pl =
          let part = root-part b at e i (map_tree mark_value t) w q in
          let n : suc (suc (e - at - 2)) ≡ e - at = omega (arith, node-length i t) in
          let rest : take (e - at - 2) (drop (at + 2) b) ≡ drop 2 (encode (node_of i (map_tree mark_value t) end)) =
          ap (take (e - at - 2)) (sym (drop-drop 2 at b)) ∙ take-later (e - at - 2) (drop at b) ∙ ap (λ (z : ℕ). drop 2 (take z (drop at b))) n ∙ ap (drop 2) part in
          let bytes : take k o₂ ≡ encode (rooted (map_tree mark_value t)) =
          (wrote-more x y).holds ∙ ap (λ (l : List ℕ). 0 % 256 ∷ 0 / 256 ∷ l) rest ∙ sym (rooted-bytes i (map_tree mark_value t)) in
          answers-as (ap (λ (z : Types). with_row row (limited (yields z))) (root-path i t Δ)) (h.tells Δ t st p bytes pl)

pub ruleset put-laws = (put-past, put-short, put_back, put-long, put_on)

-- ---- a union past the limits

within-not : (i : ℕ) (a : Mark) (k r Δ : Types) → Above i r → Rising r → one_type_at (tree a k) (find i Δ) ≡ true → within (union r Δ) ≡ false →
    within (set i (tree a k) (union r Δ)) ≡ false
within-not i a k r Δ ab w o n = by (within (set i (tree a k) (union r Δ))) refl
  where
    by : (t : Bool) → within (set i (tree a k) (union r Δ)) ≡ t → within (set i (tree a k) (union r Δ)) ≡ false
    by true e = let x = root-within i a k r Δ ab w o e in cc
    by false e = e

refused-within : (row : ℕ) (U : Types) (why : Refusal) → with_row row (limited (yields U)) ≡ refused why → within U ≡ false
refused-within row U why e = by (within U) e
  where
    by : (t : Bool) → with_row row (demand t EnvironmentTooLarge (yields U)) ≡ refused why → t ≡ false
    by true q = cc
    by false q = refl

passed_is : (row : ℕ) (U Γ : Types) → with_row row (limited (yields U)) ≡ passed Γ → U ≡ Γ
passed_is row U Γ e = by (within U) e
  where
    by : (t : Bool) → with_row row (demand t EnvironmentTooLarge (yields U)) ≡ passed Γ → U ≡ Γ
    by true q = cc
    by false q = cc

too_large : (row : ℕ) (U : Types) → within U ≡ false → with_row row (limited (yields U)) ≡ refused (EnvironmentTooLarge row)
too_large row U e = ap (λ (t : Bool). with_row row (demand t EnvironmentTooLarge (yields U))) e

-- ---- roots of an environment

record Roots (i : ℕ) (a : Mark) (k r : Types) : Type 0 where
  positive : 0 < i
  above : Above i r
  root : Placeable (tree a k)
  rest : Shape r

roots-of : (i : ℕ) (a : Mark) (k r : Types) → Shape (node i a k r) → Roots i a k r
unfolding measure Rising InRange
roots-of i (mark m b) k r h =
    let n = h.few in
    let l = h.shallow in
    record {
      positive = h.ranged.0;
      above = h.rising.0;
      root = record { basic = h.ranged.2; rising = h.rising.1; ranged = h.ranged.3; shallow = omega arith; few = omega arith };
      rest = record { few = omega arith; shallow = omega arith; rising = h.rising.2; ranged = h.ranged.4 };
    }

-- ---- the ways out of unite_from

module _ (b : List ℕ) (at n : ℕ) (d : Environment) (row : ℕ) (s : Result Environment Refusal) where
  pub unite-none : n ≡ 0 → s ≡ Ok d → UnitesFrom b at n d row s
  unfolding root_count map_forest union
  unite-none z q = record { tells = go }
    where
      go : (Γ Δ : Types) → Row b at (image Γ) → root_count (image Γ) ≡ n → Shape Γ → EnvironmentFor d Δ → one_type Γ Δ ≡ true → StepAnswers s (with_row row (limited (yields (union Γ Δ))))
      go end Δ w e h st o = pass-answers s d Δ row q st
      go (node i a k r) Δ w e h st o = absurd (omega arith)

  module _ (z : n ≡ 0 → ⊥) (h : Option Head) (p : h ≡ head_at b at) where
    pub unite-fault : h ≡ None → UnitesFrom b at n d row s
    unfolding root_count map_forest
    unite-fault q = record { tells = go }
      where
        go : (Γ Δ : Types) → Row b at (image Γ) → root_count (image Γ) ≡ n → Shape Γ → EnvironmentFor d Δ → one_type Γ Δ ≡ true → StepAnswers s (with_row row (limited (yields (union Γ Δ))))
        go end Δ w e sh st o = absurd (z (sym e))
        go (node i (mark m c) k r) Δ w e sh st o = unseen b at i 5 (flag m ∷ c ∷ []) (image k) (image r) w h p q

    module _ (top : Head) (q : h ≡ Some top) (e : ℕ) (en : Ended b at e) (v : Result Environment Refusal) (ih : UnitesFrom b e (n - 1) d row v) where
      others : (j : ℕ) (f : Bool) (g : ℕ) (k r Δ : Types) → Row b at (node j (value 5 (flag f ∷ g ∷ [])) (image k) (image r)) → suc (root_count (image r)) ≡ n →
          Shape (node j (mark f g) k r) → EnvironmentFor d Δ → one_type (node j (mark f g) k r) Δ ≡ true → StepAnswers v (with_row row (limited (yields (union r Δ))))
      others j f g k r Δ w ce sh st o =
          let le = en.ends j (map_tree mark_value (tree (mark f g) k)) (row-root b at j 5 (flag f ∷ g ∷ []) (image k) (image r) w) in
          ih.tells r Δ (row_moved b e _ (image r) le (row-rest b at j 5 (flag f ∷ g ∷ []) (image k) (image r) w)) (omega arith) (roots-of j (mark f g) k r sh).rest st
          (one-parts j (mark f g) k r Δ o).1

      pub unite-stop : (why : Refusal) → v ≡ Err why → s ≡ Err why → UnitesFrom b at n d row s
      unfolding root_count map_forest union
      unite-stop why vr sv = record { tells = go }
        where
          go : (Γ Δ : Types) → Row b at (image Γ) → root_count (image Γ) ≡ n → Shape Γ → EnvironmentFor d Δ → one_type Γ Δ ≡ true → StepAnswers s (with_row row (limited (yields (union Γ Δ))))
          go end Δ w ce sh st o = absurd (z (sym ce))
          go (node j (mark f g) k r) Δ w ce sh st o =
              let a = others j f g k r Δ w ce sh st o in
              let n = refused-within row (union r Δ) why (answers-refused a why vr).0 in
              let ro = roots-of j (mark f g) k r sh in
              let n' = within-not j (mark f g) k r Δ ro.above ro.rest.rising (one-parts j (mark f g) k r Δ o).0 n in
              subst (λ (x : Result Environment Refusal). StepAnswers x (with_row row (limited (yields (set j (tree (mark f g) k) (union r Δ)))))) (vr ∙ sym sv)
              (answers-as (too_large row (union r Δ) n ∙ sym (too_large row (set j (tree (mark f g) k) (union r Δ)) n')) a)

      pub unite-on : (f : Environment) → v ≡ Ok f → PutsRoot b at e top.id f row s → UnitesFrom b at n d row s
      unfolding root_count map_forest union
      unite-on fe vd pr = record { tells = go }
        where
          go : (Γ Δ : Types) → Row b at (image Γ) → root_count (image Γ) ≡ n → Shape Γ → EnvironmentFor d Δ → one_type Γ Δ ≡ true → StepAnswers s (with_row row (limited (yields (union Γ Δ))))
          go end Δ w ce sh st o = absurd (z (sym ce))
          go (node j (mark f g) k r) Δ w ce sh st o =
              let a = answers-done (others j f g k r Δ w ce sh st o) vd in
              let is = passed_is row (union r Δ) a.0 a.1 in
              let ro = roots-of j (mark f g) k r sh in
              let u = seen b at j 5 (flag f ∷ g ∷ []) (image k) (image r) w h top.id top.basic top.count top.start p q in
              let rt = row-root b at j 5 (flag f ∷ g ∷ []) (image k) (image r) w in
              let ri = subst (λ (x : ℕ). Root b at x (map_tree mark_value (tree (mark f g) k))) (sym u.id) rt in
              let ans = pr.tells a.0 (tree (mark f g) k) a.2 ri (en.ends top.id (map_tree mark_value (tree (mark f g) k)) ri) (subst (λ (x : ℕ). 0 < x) (sym u.id) ro.positive) ro.root in
              answers-as (ap (λ (x : ℕ). with_row row (limited (yields (set x (tree (mark f g) k) a.0)))) u.id
              ∙ ap (λ (x : Types). with_row row (limited (yields (set j (tree (mark f g) k) x)))) (sym is)) ans

pub ruleset unite-laws = (unite-none, unite-fault, unite-stop, unite-on)

module _ (e d : Environment) (row : ℕ) (s : Result Environment Refusal) (h : Option Head) (p : h ≡ head_at e.bytes 0) where
  pub union-fault : h ≡ None → Unites e d row s
  union-fault q = record { tells = λ Γ Δ v w o. root-unseen e.bytes 0 0 (tree_of Γ) (stands-root e Γ v) h p q }

  pub union-on : (top : Head) → h ≡ Some top → UnitesFrom e.bytes top.start top.count d row s → Unites e d row s
  union-on top q u = record {
    tells = λ Γ Δ v w o.
        let r = stands-root e Γ v in
        let k = root-seen e.bytes 0 0 void [] (image Γ) r h top.id top.basic top.count top.start p q in
        u.tells Γ Δ (row_moved e.bytes top.start _ (image Γ) k.next (root-kids e.bytes 0 0 void [] (image Γ) r)) (sym k.count) v.shape w o;
  }

pub ruleset union-laws = (union-fault, union-on)
