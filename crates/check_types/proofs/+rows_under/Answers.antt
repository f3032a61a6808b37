use mathlib.Core.Path.{sym, ◌∙◌}
use Rattle.check_types.proofs.Subtypes.{under-laws, both_ways}
use Rattle.check_types.specs.TypeRowsLaws.{ahead}
use borrow.Author.Tests.{ne_eqb}
use native.Mathlib.Omega.{arith}
use Rattle.check_types.proofs.+rows_under.Goals.{then-node-row-2, else-node-row-2, then-accept, else-accept}
use Rattle.check_types.proofs.+rows_under.Goals as goal

pub returns-then-m-eq0 : goal.returns-then-m-eq0
returns-then-m-eq0 t c = search under-laws depth 12

pub returns-in_default : goal.returns-in_default
returns-in_default t c = search under-laws depth 12

pub returns-then-not-node : goal.returns-then-not-node
returns-then-not-node t c = search under-laws depth 12

pub returns-else-not-node : goal.returns-else-not-node
returns-else-not-node t c = rw c.if-not-node.false (search under-laws depth 12)

pub returns-in_default-line_at : goal.returns-in_default-line_at
returns-in_default-line_at t c = search under-laws depth 12

pub returns-then-not-node-2 : goal.returns-then-not-node-2
returns-then-not-node-2 t c = search under-laws depth 12

pub returns-else-not-node-2 : goal.returns-else-not-node-2
returns-else-not-node-2 t c = rw c.if-not-node-2.false (search under-laws depth 12)

pub rows_under-requires-then-accept : goal.rows_under-requires-then-accept
rows_under-requires-then-accept t c =
    let a = ahead _ _ _ _ _ _ _ _ _ c.line_at.ensures c.in-Some-line_at.is in
    (omega (arith, a.inside, a.later, c.requires), tt)

pub rows_under-requires-then-rows_under : goal.rows_under-requires-then-rows_under
rows_under-requires-then-rows_under t c =
    let a = ahead _ _ _ _ _ _ _ _ _ c.line_at.ensures c.in-Some-line_at.is in
    (omega (arith, a.inside, a.after, c.requires), tt)

pub returns-then-rows_under : goal.returns-then-rows_under
returns-then-rows_under t c =
    elim c.if-accept.branch [
      | then-accept w ↦ elim c.if-node-row-2.branch [
        | then-node-row-2 v ↦ search (under-laws, sym v.value-is ∙ w.if-accept.true, sym w.value-is ∙ c.if-rows_under.true) depth 12
        | else-node-row-2 v ↦ both_ways c.if-node-row-2.value (v.value-is ∙ ne_eqb _ _ v.if-node-row-2.false) w.if-accept.true
      ]
      | else-accept w ↦ both_ways c.if-accept.value (w.value-is ∙ w.if-accept.false) c.if-rows_under.true
    ]

pub returns-else-rows_under : goal.returns-else-rows_under
returns-else-rows_under t c =
    rw c.if-rows_under.false (elim c.if-accept.branch [
      | then-accept w ↦ elim c.if-node-row-2.branch [
        | then-node-row-2 v ↦ search (under-laws, sym v.value-is ∙ w.if-accept.true, sym w.value-is ∙ c.if-rows_under.false) depth 12
        | else-node-row-2 v ↦ both_ways c.if-node-row-2.value (v.value-is ∙ ne_eqb _ _ v.if-node-row-2.false) w.if-accept.true
      ]
      | else-accept w ↦ elim c.if-node-row-2.branch [
        | then-node-row-2 v ↦ search (under-laws, sym v.value-is ∙ w.if-accept.false) depth 12
        | else-node-row-2 v ↦ search under-laws depth 12
      ]
    ])
