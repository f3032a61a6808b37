use Rattle.check_network.proofs.AnswerLaws.{role-laws}
use Rattle.check_network.proofs.starter.Goals as goal

pub returns-then-r : goal.returns-then-r
returns-then-r c = search role-laws depth 12

pub returns : goal.returns
returns c = search role-laws depth 12
