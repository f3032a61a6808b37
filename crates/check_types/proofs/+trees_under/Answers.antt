use mathlib.Core.Path.{sym, ◌∙◌}
use Rattle.check_types.proofs.Subtypes.{over-laws, both_ways}
use Rattle.check_types.specs.TypeRowsLaws.{ahead}
use borrow.Author.Tests.{ne_eqb}
use native.Mathlib.Omega.{arith}
use Rattle.check_types.proofs.+trees_under.Goals.{then-row-node-2, else-row-node-2, then-accept, else-accept}
use Rattle.check_types.proofs.+trees_under.Goals as goal

pub returns-then-n-eq0 : goal.returns-then-n-eq0
returns-then-n-eq0 t c = search over-laws depth 12

pub returns-in_default : goal.returns-in_default
returns-in_default t c = search over-laws depth 12

pub trees_under-requires : goal.trees_under-requires
trees_under-requires t c =
    let a = ahead _ _ _ _ _ _ _ _ _ c.line_at.ensures c.in-Some.is in
    (omega (arith, a.inside, a.after, c.requires), tt)

pub returns-then-not-row : goal.returns-then-not-row
returns-then-not-row t c = search over-laws depth 12

pub returns-else-not-row : goal.returns-else-not-row
returns-else-not-row t c = rw c.if-not-row.false (search over-laws depth 12)

pub returns-in_default-type_head : goal.returns-in_default-type_head
returns-in_default-type_head t c = search over-laws depth 12

pub trees_under-requires-then-not-row-2 : goal.trees_under-requires-then-not-row-2
trees_under-requires-then-not-row-2 t c =
    let a = ahead _ _ _ _ _ _ _ _ _ c.line_at.ensures c.in-Some.is in
    (omega (arith, a.inside, a.after, c.requires), tt)

pub returns-then-not-row-2 : goal.returns-then-not-row-2
returns-then-not-row-2 t c = search over-laws depth 12

pub returns-else-not-row-2 : goal.returns-else-not-row-2
returns-else-not-row-2 t c = rw c.if-not-row-2.false (search over-laws depth 12)

pub trees_under-requires-then-accept : goal.trees_under-requires-then-accept
trees_under-requires-then-accept t c =
    let a = ahead _ _ _ _ _ _ _ _ _ c.line_at.ensures c.in-Some.is in
    (omega (arith, a.inside, a.later, c.requires), tt)

pub trees_under-requires-then-trees_under : goal.trees_under-requires-then-trees_under
trees_under-requires-then-trees_under t c =
    let a = ahead _ _ _ _ _ _ _ _ _ c.line_at.ensures c.in-Some.is in
    (omega (arith, a.inside, a.after, c.requires), tt)

pub returns-then-trees_under : goal.returns-then-trees_under
returns-then-trees_under t c =
    elim c.if-accept.branch [
      | then-accept w ↦ elim c.if-row-node-2.branch [
        | then-row-node-2 v ↦ search (over-laws, sym v.value-is ∙ w.if-accept.true, sym w.value-is ∙ c.if-trees_under.true) depth 12
        | else-row-node-2 v ↦ both_ways c.if-row-node-2.value (v.value-is ∙ ne_eqb _ _ v.if-row-node-2.false) w.if-accept.true
      ]
      | else-accept w ↦ both_ways c.if-accept.value (w.value-is ∙ w.if-accept.false) c.if-trees_under.true
    ]

pub returns-else-trees_under : goal.returns-else-trees_under
returns-else-trees_under t c =
    rw c.if-trees_under.false (elim c.if-accept.branch [
      | then-accept w ↦ elim c.if-row-node-2.branch [
        | then-row-node-2 v ↦ search (over-laws, sym v.value-is ∙ w.if-accept.true, sym w.value-is ∙ c.if-trees_under.false) depth 12
        | else-row-node-2 v ↦ both_ways c.if-row-node-2.value (v.value-is ∙ ne_eqb _ _ v.if-row-node-2.false) w.if-accept.true
      ]
      | else-accept w ↦ elim c.if-row-node-2.branch [
        | then-row-node-2 v ↦ search (over-laws, sym v.value-is ∙ w.if-accept.false) depth 12
        | else-row-node-2 v ↦ search over-laws depth 12
      ]
    ])
