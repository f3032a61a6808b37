use borrow.Author.Rules.{rules}
use Rattle.tree.specs.Encode.{Octets}
use Rattle.tree_count.proofs.Counting.{nodes-left, nodes-laws}
use Rattle.tree_count.proofs.node_count.Goals as goal

pub returns-in_default : goal.returns-in_default
returns-in_default c = search nodes-laws depth 12

pub returns-in_default-kids : goal.returns-in_default-kids
returns-in_default-kids c = search nodes-laws depth 12

pub overflow_sub-result : goal.overflow_sub-result
overflow_sub-result c =
    let o : Octets c.args.s.now = search rules in
    search nodes-left depth 12

pub returns : goal.returns
returns c =
    let o : Octets c.args.s.now = search rules in
    search nodes-laws depth 12
