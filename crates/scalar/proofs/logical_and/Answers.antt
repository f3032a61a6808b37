use mathlib.Core.Path.{refl}
use Rattle.scalar.proofs.Operating.{and-bools, not-bool, and-unlike, and-other}
use Rattle.scalar.proofs.logical_and.Goals as goal

pub returns-then-p : goal.returns-then-p
returns-then-p c = and-bools c.args.a c.args.b c.in-Bool-Bool.is-0 c.in-Bool-Bool.is-1 (rw c.if-p.true refl)

pub returns-else-p : goal.returns-else-p
returns-else-p c = and-bools c.args.a c.args.b c.in-Bool-Bool.is-0 c.in-Bool-Bool.is-1 (rw c.if-p.false refl)

pub returns-in_default : goal.returns-in_default
returns-in_default c = and-unlike c.args.a c.args.b c.in_default.is-0 (not-bool _ c.in_default.not-Bool-1)

pub returns-in_default-2 : goal.returns-in_default-2
returns-in_default-2 c = and-other c.args.a c.args.b (not-bool _ c.in_default.not-Bool-0)
