use Rattle.check_environments.proofs.Assigning.{free-laws}
use Rattle.check_environments.proofs.+no_mandatory.Goals as goal

pub returns-then-n-eq0 : goal.returns-then-n-eq0
returns-then-n-eq0 t c = search free-laws depth 12

pub returns-in_default : goal.returns-in_default
returns-in_default t c = search free-laws depth 12

pub returns-then-not-node : goal.returns-then-not-node
returns-then-not-node t c = search free-laws depth 12

pub returns-else-not-node : goal.returns-else-not-node
returns-else-not-node t c = rw c.if-not-node.false (search free-laws depth 12)
