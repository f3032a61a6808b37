use borrow.Author.Rules.{rules}
use Rattle.utf8.proofs.OctetLaws.{within-laws}
use Rattle.utf8.proofs.is_tail.Goals as goal

pub returns-then-a-lt128 : goal.returns-then-a-lt128
returns-then-a-lt128 c = search (within-laws, rules)

pub returns : goal.returns
returns c = search (within-laws, rules)
