use Rattle.state_trees.proofs.Changes.{assign-refused, assign-done}
use borrow.Author.Rules.{rules}
use Rattle.state_trees.proofs.assign.Goals as goal

pub returns-then-not-changeable : goal.returns-then-not-changeable
returns-then-not-changeable c = search (assign-refused, rules) depth 12

pub returns : goal.returns
returns c = search (assign-done, rules) depth 12
