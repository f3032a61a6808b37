use native.Mathlib.Omega.{arith}
use Rattle.scalar.proofs.ByScalar.{word-is, word-past}
use Rattle.scalar.proofs.word_of.Goals as goal

pub returns-in-0 : goal.returns-in-0
returns-in-0 c = (word-is c.in-0.is, omega arith)

pub returns-in-1 : goal.returns-in-1
returns-in-1 c = (word-is c.in-1.is, omega arith)

pub returns-in-2 : goal.returns-in-2
returns-in-2 c = (word-is c.in-2.is, omega arith)

pub returns-in-3 : goal.returns-in-3
returns-in-3 c = (word-is c.in-3.is, omega arith)

pub returns-in-4 : goal.returns-in-4
returns-in-4 c = (word-is c.in-4.is, omega arith)

pub returns-in-5 : goal.returns-in-5
returns-in-5 c = (word-is c.in-5.is, omega arith)

pub returns-in-6 : goal.returns-in-6
returns-in-6 c = (word-is c.in-6.is, omega arith)

pub returns-in_default : goal.returns-in_default
returns-in_default c = (word-past c.args.basic (omega arith), omega arith)
