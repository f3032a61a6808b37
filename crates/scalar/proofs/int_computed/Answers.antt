use mir.Syntax.{w32}
use mir.Val.{SFits}
use mir.ValLaws.{to_z-of_z}
use Rattle.scalar.proofs.Operating.{int-given, int-left}
use borrow.Author.Rules.{rules}
use Rattle.scalar.proofs.int_computed.Goals as goal

pub returns-in-Some : goal.returns-in-Some
returns-in-Some c =
    let f : SFits w32 c.in-Some.z = search rules in
    int-given c.in-Some.is (to_z-of_z w32 c.in-Some.z f)

pub returns-in-None : goal.returns-in-None
returns-in-None c = int-left _ c.in-None.is
