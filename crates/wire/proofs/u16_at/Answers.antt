use mathlib.Core.Path.{sym}
use Rattle.wire.specs.Wire.{u16_at}
use Rattle.wire.specs.WireLaws.{u16-past}
use borrow.Author.Rules.{rules}
use Rattle.wire.proofs.u16_at.Goals as goal

pub returns-then-s-at : goal.returns-then-s-at
returns-then-s-at c = sym (u16-past c.args.s.now c.args.at (search rules))

pub returns : goal.returns
unfolding u16_at
returns c = search rules
