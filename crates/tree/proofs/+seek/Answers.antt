use Rattle.tree.proofs.Walking.{seek-laws}
use Rattle.tree.proofs.+seek.Goals as goal

pub returns-then-n-eq0 : goal.returns-then-n-eq0
returns-then-n-eq0 t c = search seek-laws depth 12

pub returns-in_err-node : goal.returns-in_err-node
returns-in_err-node t c = rw c.from_residual.ensures (search (seek-laws, c.in_err-node.was) depth 12)

pub returns-then-id-node : goal.returns-then-id-node
returns-then-id-node t c = search (seek-laws, c.in_ok-node.was) depth 12

pub returns-then-node-id : goal.returns-then-node-id
returns-then-node-id t c = search (seek-laws, c.in_ok-node.was) depth 12

pub returns : goal.returns
returns t c = search (seek-laws, c.in_ok-node.was) depth 12
