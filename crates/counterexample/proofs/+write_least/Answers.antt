use Rattle.counterexample.proofs.Writing.{least_laws, least_skip, least-full, least_more}
use Rattle.check_types.specs.TypeRowsLaws.{ahead}
use native.Mathlib.Omega.{arith}
use Rattle.std.proofs.lemmas.Bool.{not_from_true, not_from_false}
use Rattle.counterexample.proofs.+write_least.Goals as goal

pub returns-then-n-eq0 : goal.returns-then-n-eq0
returns-then-n-eq0 t c = search least_laws depth 12

pub returns-in_default : goal.returns-in_default
returns-in_default t c = search least_laws depth 12

pub write_least-requires : goal.write_least-requires
write_least-requires t c =
    let a = ahead _ _ _ _ _ _ _ _ _ c.line_at.ensures c.in-Some.is in
    (omega (arith, a.inside, a.after, c.requires), omega (arith, c.requires))

pub returns-then-not-holds : goal.returns-then-not-holds
returns-then-not-holds t c =
    least_skip _ _ _ _ _ _ c.requires c.if-n-eq0.false _ c.line_at.ensures _ _ _ _ _ _ c.in-Some.is _ _ _ c.span-size.ensures c.saturating_sub-later.ensures c.holds.ensures
    (not_from_false _ c.if-not-holds.true) _ _ c.write_least.ensures

pub returns-then-out-w : goal.returns-then-out-w
returns-then-out-w t c =
    least-full _ _ _ _ _ _ c.requires c.if-n-eq0.false _ c.line_at.ensures _ _ _ _ _ _ c.in-Some.is _ _ _ c.span-size.ensures c.saturating_sub-later.ensures c.holds.ensures
    (not_from_true _ c.if-not-holds.false) _ c.least_size-z.ensures.0 c.if-out-w.true

pub write_least-e-requires : goal.write_least-e-requires
write_least-e-requires t c =
    let a = ahead _ _ _ _ _ _ _ _ _ c.line_at.ensures c.in-Some.is in
    (omega (arith, a.inside, a.later, c.requires), omega (arith, c.push_least-a.ensures.next, c.push_least-a.auto.out, c.if-out-w.false, c.requires))

pub write_least-requires-2 : goal.write_least-requires-2
write_least-requires-2 t c =
    let a = ahead _ _ _ _ _ _ _ _ _ c.line_at.ensures c.in-Some.is in
    (omega (arith, a.inside, a.after, c.requires), omega (arith, c.write_least-e.ensures.inside, c.write_least-e.auto.out))

pub returns : goal.returns
returns t c =
    least_more _ _ _ _ _ _ c.requires c.if-n-eq0.false _ c.line_at.ensures _ _ _ _ _ _ c.in-Some.is _ _ _ c.span-size.ensures c.saturating_sub-later.ensures c.holds.ensures
    (not_from_true _ c.if-not-holds.false) _ c.least_size-z.ensures.0 _ _ _ _ _ _ _ _ c.saturating_sub-under.ensures c.held-count.ensures c.push_least-a.auto.out c.write_least-e.auto.out c.push_least-a.ensures
    c.write_least-e.ensures c.write_least-2.ensures
