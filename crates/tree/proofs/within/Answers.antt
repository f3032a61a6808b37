use borrow.Author.Rules.{rules}
use Rattle.tree.specs.Encode.{Octets}
use Rattle.tree.proofs.Deciding.{within-fault, within-by}
use Rattle.tree.proofs.within.Goals as goal

pub returns-in_default : goal.returns-in_default
returns-in_default c = within-fault _ _ _ _ c.head_at.ensures c.in_default.is

pub returns : goal.returns
returns c =
    let o : Octets c.args.s.now = search rules in
    rw c.is_some.ensures (within-by _ _ _ _ c.head_at.ensures _ c.in-Some.is _ c.kids.ensures o)
