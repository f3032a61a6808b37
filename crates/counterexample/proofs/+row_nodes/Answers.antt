use Rattle.counterexample.proofs.Rows.{nodes-laws, nodes-more}
use Rattle.check_types.specs.TypeRowsLaws.{ahead}
use native.Mathlib.Omega.{arith}
use Rattle.counterexample.proofs.+row_nodes.Goals as goal

pub returns-then-n-eq0 : goal.returns-then-n-eq0
returns-then-n-eq0 t c = search nodes-laws depth 12

pub returns-in_default : goal.returns-in_default
returns-in_default t c = search nodes-laws depth 12

pub row_nodes-below-requires : goal.row_nodes-below-requires
row_nodes-below-requires t c =
    let a = ahead _ _ _ _ _ _ _ _ _ c.line_at.ensures c.in-Some.is in
    (omega (arith, a.inside, a.later, c.requires), tt)

pub row_nodes-others-requires : goal.row_nodes-others-requires
row_nodes-others-requires t c =
    let a = ahead _ _ _ _ _ _ _ _ _ c.line_at.ensures c.in-Some.is in
    (omega (arith, a.inside, a.after, c.requires), tt)

pub returns : goal.returns
returns t c = nodes-more _ _ _ c.if-n-eq0.false _ c.line_at.ensures _ _ _ _ _ _ c.in-Some.is _ _ _ c.row_nodes-below.ensures c.row_nodes-others.ensures c.one_more.ensures
