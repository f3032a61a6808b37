use Rattle.check_environments.proofs.Entries.{listed-laws}
use Rattle.check_environments.proofs.node_at.Goals as goal

pub returns-in_err-top : goal.returns-in_err-top
returns-in_err-top c = rw c.from_residual.ensures (search (listed-laws, c.in_err-top.was) depth 12)

pub returns : goal.returns
returns c = search (listed-laws, c.in_ok-top.was) depth 12
