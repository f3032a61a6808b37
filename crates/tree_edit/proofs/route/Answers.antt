use borrow.Author.Rules.{rules}
use Rattle.tree.specs.Encode.{Octets}
use Rattle.tree_edit.proofs.Bounds.{route-laws}
use Rattle.tree_edit.proofs.route.Goals as goal

pub returns-in_default : goal.returns-in_default
returns-in_default c =
    let o : Octets c.args.s.now = search rules in
    search route-laws depth 12

pub returns : goal.returns
returns c =
    let o : Octets c.args.s.now = search rules in
    search route-laws depth 12
