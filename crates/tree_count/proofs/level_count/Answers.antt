use borrow.Author.Rules.{rules}
use Rattle.tree.specs.Encode.{Octets}
use Rattle.tree_count.proofs.Counting.{missed-none, missed-next, levels-laws}
use Rattle.tree_count.proofs.level_count.Goals as goal

pub returns-in_default : goal.returns-in_default
returns-in_default c = search levels-laws depth 12

pub loop-levels-init : goal.loop-levels-init
loop-levels-init c = search missed-none depth 12

pub returns-then-is_some : goal.returns-then-is_some
returns-then-is_some c =
    let o : Octets c.args.s.now = search rules in
    search levels-laws depth 12

pub loop-levels-preserved : goal.loop-levels-preserved
loop-levels-preserved c = search missed-next depth 12

pub returns : goal.returns
returns c = search levels-laws depth 12
