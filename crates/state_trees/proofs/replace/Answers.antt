use Rattle.state_trees.proofs.Changes.{replace-refused, replace-done}
use borrow.Author.Rules.{rules}
use Rattle.state_trees.proofs.replace.Goals as goal

pub returns-then-not-changeable : goal.returns-then-not-changeable
returns-then-not-changeable c = search (replace-refused, rules) depth 12

pub returns : goal.returns
returns c = search (replace-done, rules) depth 12
