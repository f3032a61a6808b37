use Rattle.counterexample.proofs.Rows.{held-laws, held_more, held-others}
use Rattle.check_types.specs.TypeRowsLaws.{ahead}
use native.Mathlib.Omega.{arith}
use Rattle.counterexample.proofs.+held.Goals as goal

pub returns-then-n-eq0 : goal.returns-then-n-eq0
returns-then-n-eq0 t c = search held-laws depth 12

pub returns-in_default : goal.returns-in_default
returns-in_default t c = search held-laws depth 12

pub held-others-requires : goal.held-others-requires
held-others-requires t c =
    let a = ahead _ _ _ _ _ _ _ _ _ c.line_at.ensures c.in-Some.is in
    (omega (arith, a.inside, a.after, c.requires), tt)

pub returns-then-holds : goal.returns-then-holds
returns-then-holds t c =
    held_more _ _ _ c.if-n-eq0.false _ c.line_at.ensures _ _ _ _ _ _ c.in-Some.is _ _ _ _ _ c.span-size.ensures c.holds.ensures
    c.saturating_sub.ensures c.held-others.ensures c.if-holds.true

pub returns : goal.returns
returns t c =
    held-others _ _ _ c.if-n-eq0.false _ c.line_at.ensures _ _ _ _ _ _ c.in-Some.is _ _ _ _ _ c.span-size.ensures c.holds.ensures
    c.saturating_sub.ensures c.held-others.ensures c.if-holds.false
