use borrow.Author.Rules.{rules}
use Rattle.utf8.proofs.SecondLaws.{second-laws}
use Rattle.utf8.proofs.is_second.Goals as goal

pub returns-then-not-is_tail : goal.returns-then-not-is_tail
returns-then-not-is_tail c = search (second-laws, rules)

pub returns-then-first-eq224 : goal.returns-then-first-eq224
returns-then-first-eq224 c = search (second-laws, rules)

pub returns-then-first-eq237 : goal.returns-then-first-eq237
returns-then-first-eq237 c = search (second-laws, rules)

pub returns-then-first-eq240 : goal.returns-then-first-eq240
returns-then-first-eq240 c = search (second-laws, rules)

pub returns-then-first-eq244 : goal.returns-then-first-eq244
returns-then-first-eq244 c = search (second-laws, rules)

pub returns : goal.returns
returns c = search (second-laws, rules)
