use Rattle.wire.specs.WireLaws.{u32-short}
use Rattle.wire.specs.Wire.{u32_at}
use native.Mathlib.Omega.{arith}
use borrow.Author.Rules.{rules}
use Rattle.wire.proofs.u32_at.Goals as goal

pub returns-then-s-lt2 : goal.returns-then-s-lt2
returns-then-s-lt2 c = let a = c.args in omega (arith, u32-short a.s.now a.at (omega arith))

pub returns-then-s-at : goal.returns-then-s-at
returns-then-s-at c = let a = c.args in omega (arith, u32-short a.s.now a.at (omega arith))

pub returns : goal.returns
unfolding u32_at
returns c = search rules
