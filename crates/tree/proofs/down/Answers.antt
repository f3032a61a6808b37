use Rattle.tree.proofs.Walking.{down-laws}
use Rattle.tree.proofs.down.Goals as goal

pub returns-in_err-root : goal.returns-in_err-root
returns-in_err-root c = rw c.from_residual.ensures (search (down-laws, c.in_err-root.was) depth 12)

pub returns : goal.returns
returns c = search (down-laws, c.in_ok-root.was) depth 12
