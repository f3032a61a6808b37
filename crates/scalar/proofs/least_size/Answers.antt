use native.Mathlib.Omega.{arith}
use Rattle.scalar.proofs.ByScalar.{least-is}
use Rattle.scalar.specs.ValueLaws.{least-empty}
use Rattle.scalar.proofs.least_size.Goals as goal

pub returns-in-0 : goal.returns-in-0
returns-in-0 c = (least-is c.in-0.is, omega arith)

pub returns-in-1 : goal.returns-in-1
returns-in-1 c = (least-is c.in-1.is, omega arith)

pub returns-in-2 : goal.returns-in-2
returns-in-2 c = (least-is c.in-2.is, omega arith)

pub returns-in-3 : goal.returns-in-3
returns-in-3 c = (least-is c.in-3.is, omega arith)

pub returns-in_default : goal.returns-in_default
returns-in_default c = (
  least-empty c.args.basic c.in_default.in_default-own.rest.0.0.0.1 c.in_default.in_default-own.rest.0.0.1 c.in_default.in_default-own.rest.0.1 c.in_default.in_default-own.rest.1,
  omega arith,
)
