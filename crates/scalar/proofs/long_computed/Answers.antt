use mir.Syntax.{w64}
use mir.Val.{SFits}
use mir.ValLaws.{to_z-of_z}
use Rattle.scalar.proofs.Operating.{long-given, long-left}
use borrow.Author.Rules.{rules}
use Rattle.scalar.proofs.long_computed.Goals as goal

pub returns-in-Some : goal.returns-in-Some
returns-in-Some c =
    let f : SFits w64 c.in-Some.z = search rules in
    long-given c.in-Some.is (to_z-of_z w64 c.in-Some.z f)

pub returns-in-None : goal.returns-in-None
returns-in-None c = long-left _ c.in-None.is
