use Rattle.check_environments.proofs.Entries.{list-laws}
use Rattle.check_environments.proofs.+entry_from.Goals as goal

pub returns-then-n-eq0 : goal.returns-then-n-eq0
returns-then-n-eq0 t c = search list-laws depth 12

pub returns-in_err-node : goal.returns-in_err-node
returns-in_err-node t c = rw c.from_residual.ensures (search (list-laws, c.in_err-node.was) depth 12)

pub returns-then-depth-gt5 : goal.returns-then-depth-gt5
returns-then-depth-gt5 t c = search (list-laws, c.in_ok-node.was) depth 12

pub returns-then-end-at : goal.returns-then-end-at
returns-then-end-at t c = search (list-laws, c.in_ok-node.was) depth 12

pub returns-then-i-eq0 : goal.returns-then-i-eq0
returns-then-i-eq0 t c = search (list-laws, c.in_ok-node.was) depth 12

pub returns-then-i-size : goal.returns-then-i-size
returns-then-i-size t c = search (list-laws, c.in_ok-node.was) depth 12

pub returns : goal.returns
returns t c = search (list-laws, c.in_ok-node.was) depth 12
