use Rattle.check_environments.proofs.Firmness.{read-laws}
use Rattle.check_environments.proofs.read_firm.Goals as goal

pub returns-in_default : goal.returns-in_default
returns-in_default c = search (read-laws, c.in_default.not-Here) depth 12

pub returns-in_err-node : goal.returns-in_err-node
returns-in_err-node c = rw c.from_residual.ensures (search (read-laws, c.in_err-node.was) depth 12)

pub returns-then-not-node : goal.returns-then-not-node
returns-then-not-node c = search (read-laws, c.in_ok-node.was) depth 12

pub returns : goal.returns
returns c = search (read-laws, c.in_ok-node.was) depth 12
