use Rattle.check_listing.proofs.Records.{count-laws}
use borrow.Author.Rules.{rules}
use Rattle.check_listing.proofs.node_count.Goals as goal

pub returns-then-e-gt512 : goal.returns-then-e-gt512
returns-then-e-gt512 c = search (count-laws, rules) depth 12

pub returns-then-e-lt5 : goal.returns-then-e-lt5
returns-then-e-lt5 c = search (count-laws, rules) depth 12

pub returns : goal.returns
returns c = search (count-laws, rules) depth 12
