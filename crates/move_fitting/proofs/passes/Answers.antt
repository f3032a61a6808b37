use Rattle.move_fitting.proofs.Passing.{pass-laws}
use borrow.Author.Rules.{rules}
use Rattle.move_fitting.proofs.passes.Goals as goal

pub returns-then-not-is_message : goal.returns-then-not-is_message
returns-then-not-is_message c = search (pass-laws, rules) depth 12

pub returns-then-not-fits : goal.returns-then-not-fits
returns-then-not-fits c = search (pass-laws, rules) depth 12

pub returns : goal.returns
returns c = search (pass-laws, rules) depth 12
