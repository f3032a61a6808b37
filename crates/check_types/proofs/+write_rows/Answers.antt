use Rattle.check_types.proofs.Writing.{write-laws, write-more}
use Rattle.check_types.specs.TypeRowsLaws.{ahead}
use native.Mathlib.Omega.{arith}
use Rattle.check_types.proofs.+write_rows.Goals as goal

pub returns-then-n-eq0 : goal.returns-then-n-eq0
returns-then-n-eq0 t c = search write-laws depth 12

pub returns-in_default : goal.returns-in_default
returns-in_default t c = search write-laws depth 12

pub returns-in_default-try_from : goal.returns-in_default-try_from
returns-in_default-try_from t c = search (write-laws, c.in_default-try_from.ensures) depth 12

pub returns-then-out-w-lt7 : goal.returns-then-out-w-lt7
returns-then-out-w-lt7 t c = search write-laws depth 12

pub write_rows-e-requires : goal.write_rows-e-requires
write_rows-e-requires t c =
    let a = ahead _ _ _ _ _ _ _ _ _ c.line_at.ensures c.in-Some.is in
    (omega (arith, a.inside, a.later, c.requires), omega (arith, c.push_node-a.ensures.next, c.push_node-a.auto.out, c.if-out-w-lt7.false, c.requires))

pub write_rows-requires : goal.write_rows-requires
write_rows-requires t c =
    let a = ahead _ _ _ _ _ _ _ _ _ c.line_at.ensures c.in-Some.is in
    (omega (arith, a.inside, a.after, c.requires), omega (arith, c.write_rows-e.ensures.inside, c.write_rows-e.auto.out))

pub returns : goal.returns
returns t c = search (write-more, c.in-Ok.ensures.1) depth 14
