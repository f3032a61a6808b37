use Rattle.check_environments.proofs.Comparing.{one_laws}
use Rattle.check_environments.proofs.+one_from.Goals as goal

pub returns-then-n-eq0 : goal.returns-then-n-eq0
returns-then-n-eq0 t c = search one_laws depth 12

pub returns-in_default : goal.returns-in_default
returns-in_default t c = search one_laws depth 12

pub returns-then-root_same : goal.returns-then-root_same
returns-then-root_same t c = search one_laws depth 12

pub returns-else-root_same : goal.returns-else-root_same
returns-else-root_same t c = rw c.if-root_same.false (search one_laws depth 12)
