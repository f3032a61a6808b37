use Rattle.check_environments.proofs.Firmness.{ask-laws}
use Rattle.check_environments.proofs.ask.Goals as goal

pub returns-in_default : goal.returns-in_default
returns-in_default c = search ask-laws depth 12

pub returns-then-type_under : goal.returns-then-type_under
returns-then-type_under c = search ask-laws depth 12

pub returns : goal.returns
returns c = search ask-laws depth 12
