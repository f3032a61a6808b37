use Rattle.state_trees.proofs.Changes.{replaced-at}
use borrow.Author.Rules.{rules}
use Rattle.state_trees.proofs.replace_at.Goals as goal

pub returns : goal.returns
returns c = search (replaced-at, rules) depth 12
