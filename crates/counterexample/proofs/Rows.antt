-- What is counted of T rows, at each of the ways out of the code.
use mathlib.Core.Path.{◌≡◌, refl, ap, sym, subst, ◌∙◌}
use mathlib.Core.List.{List}
use mathlib.Core.Bool.{Bool, true, false}
use Prim.Native.Nat.{ℕ, suc, ◌+◌, ◌-◌, ◌≤◌, ◌<◌}
use native.Mathlib.Omega.{arith}
use Rattle.basics.specs.Choice.{pick}
use Rattle.tree_forest.specs.Forest.{end, node, nodes, measure}
use Rattle.tree.specs.Encode.{root_count}
use Rattle.network_syntax.specs.Syntax.{Mark, mark, Types}
use Rattle.network.specs.Form.{WellFormed}
use Rattle.network.specs.Layout.{type_count}
use Rattle.network.specs.Decode.{siblings}
use Rattle.check_types.specs.TypeRows.{row_types, line_of}
use Rattle.check_types.specs.TypeRowsLaws.{RowMet, met, unmet}
use Rattle.check_types.specs.declared.Line.{Line}
use Rattle.counterexample_rules.specs.Breaking.{least_of, holds_child, least_with}
use Rattle.counterexample_rules.specs.LeastLaws.{least-by}
use Rattle.counterexample.specs.Tells.{RowNodes, Spans, Held}
use Rattle.std.specs.Prelude.{Option, Some, None}
use Rattle.check_types.specs.TypeRows.{row_line}

-- ---- nodes

pub no_rows : (file : List ℕ) (r n : ℕ) → n ≡ 0 → row_types file r n ≡ end
unfolding siblings
no_rows file r n e = rw e refl

nodes-as : (F : Types) (j : ℕ) (a : Mark) (k r : Types) → F ≡ node j a k r → nodes F ≡ suc (nodes k + nodes r)
unfolding measure
nodes-as F j a k r e = rw e (omega arith)

nodes-end : (F : Types) → F ≡ end → nodes F ≡ 0
unfolding measure
nodes-end F e = rw e refl

count-end : (j : ℕ) (F : Types) → F ≡ end → root_count (least_with j F) ≡ 0
unfolding least_with root_count
count-end j F e = rw e refl

module _ (file : List ℕ) (r n : ℕ) where
  pub nodes-none : n ≡ 0 → RowNodes file r n 0
  nodes-none z = record { small = omega arith; tells = λ wf le s. sym (nodes-end (row_types file r n) (no_rows file r n z)) }

  pub held-no-rows : (j : ℕ) → n ≡ 0 → Held file r n j 0
  held-no-rows j z = record { small = omega arith; tells = λ wf le s. sym (count-end j (row_types file r n) (no_rows file r n z)) }

  module _ (z : n ≡ 0 → ⊥) (g : Option Line) (lp : g ≡ line_of file r) where
    pub nodes-outside : g ≡ None → RowNodes file r n 0
    nodes-outside lq = record { small = omega arith; tells = λ wf le s. unmet file r n wf le z g lp lq }

    pub held-outside : (j : ℕ) → g ≡ None → Held file r n j 0
    held-outside j lq = record { small = omega arith; tells = λ wf le s. unmet file r n wf le z g lp lq }

    module _ (i : ℕ) (m : Bool) (b first c next : ℕ) (lq : g ≡ Some (row_line i m b first c next)) where
      pub opens : WellFormed file → r + n ≤ type_count file → RowMet file r n i m b first c next
      opens wf le = met file r n wf le z g i m b first c next lp lq

      pub sized : (wf : WellFormed file) (le : r + n ≤ type_count file) → nodes (row_types file r n) ≡ suc (nodes (row_types file first c) + nodes (row_types file next (n - 1)))
      sized wf le = nodes-as (row_types file r n) i (mark m b) (row_types file first c) (row_types file next (n - 1)) (opens wf le).whole

      pub nodes-more : (x y k : ℕ) → RowNodes file first c x → RowNodes file next (n - 1) y → (k < 256) × ((1 + x + y < 256) → k ≡ 1 + x + y) → RowNodes file r n k
      nodes-more x y k p q h = record {
        small = h.0;
        tells = λ wf le s.
            let w = opens wf le in
            let e = sized wf le in
            let ex = p.tells wf w.below (omega arith) in
            let ey = q.tells wf w.others (omega arith) in
            h.1 (omega arith) ∙ omega arith;
      }

      -- the least siblings, the first held or not
      pub first_by : (j x : ℕ) (t : Bool) → Spans file first c j x → t ≡ holds_child m j x → (wf : WellFormed file) → r + n ≤ type_count file → nodes (row_types file r n) < 256
          → least_with j (row_types file r n)
          ≡ pick t (node i (least_of b) (least_with (j - 1) (row_types file first c)) (least_with (j - x) (row_types file next (n - 1)))) (least_with (j - x) (row_types file next (n - 1)))
      first_by j x t p e wf le s =
          let w = opens wf le in
          let K = row_types file first c in
          let R = row_types file next (n - 1) in
          let few : nodes K < 256 = omega (arith, sized wf le) in
          let q = p.later wf w.below few in
          ap (least_with j) w.whole ∙ least-by j i m b K R t (sym (e ∙ p.holding wf w.below few m)) ∙ rw (← q) refl

      pub held_more : (j x k l : ℕ) (t : Bool) → Spans file first c j x → t ≡ holds_child m j x → l ≡ j - x → Held file next (n - 1) l k → t ≡ true → Held file r n j (k + 1)
      unfolding root_count
      held_more j x k l t p e lx h' y = let h = subst (λ (z : ℕ). Held file next (n - 1) z k) lx h' in record {
        small = omega (arith, h.small);
        tells = λ wf le s.
            let w = opens wf le in
            let eq = first_by j x t p e wf le s in
            let u = h.tells wf w.others (omega (arith, sized wf le)) in
            omega (arith, u, ap root_count eq ∙ ap (λ (v : Bool). root_count (pick v (node i (least_of b) (least_with (j - 1) (row_types file first c)) (least_with (j - x) (row_types file next (n - 1)))) (least_with (j - x) (row_types file next (n - 1))))) y);
      }

      pub held-others : (j x k l : ℕ) (t : Bool) → Spans file first c j x → t ≡ holds_child m j x → l ≡ j - x → Held file next (n - 1) l k → t ≡ false → Held file r n j k
      held-others j x k l t p e lx h' y = let h = subst (λ (z : ℕ). Held file next (n - 1) z k) lx h' in record {
        small = omega (arith, h.small);
        tells = λ wf le s.
            let w = opens wf le in
            let eq = first_by j x t p e wf le s in
            let u = h.tells wf w.others (omega (arith, sized wf le)) in
            u ∙ sym (ap root_count eq ∙ ap (λ (v : Bool). root_count (pick v (node i (least_of b) (least_with (j - 1) (row_types file first c)) (least_with (j - x) (row_types file next (n - 1)))) (least_with (j - x) (row_types file next (n - 1))))) y);
      }

pub ruleset nodes-laws = (nodes-none, nodes-outside)

pub ruleset held-laws = (held-no-rows, held-outside)
