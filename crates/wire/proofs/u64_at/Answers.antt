use Rattle.wire.specs.WireLaws.{u64-short}
use Rattle.wire.specs.Wire.{u64_at}
use native.Mathlib.Omega.{arith}
use borrow.Author.Rules.{rules}
use Rattle.wire.proofs.u64_at.Goals as goal

pub returns-then-s-lt4 : goal.returns-then-s-lt4
returns-then-s-lt4 c = let a = c.args in omega (arith, u64-short a.s.now a.at (omega arith))

pub returns-then-s-at : goal.returns-then-s-at
returns-then-s-at c = let a = c.args in omega (arith, u64-short a.s.now a.at (omega arith))

pub returns : goal.returns
unfolding u64_at
returns c = search rules
