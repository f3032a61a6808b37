use Rattle.check_types.proofs.Heads.{head-laws}
use Rattle.check_types.proofs.type_head.Goals as goal

pub returns-in_err-id : goal.returns-in_err-id
returns-in_err-id c = rw c.from_residual.ensures (search (head-laws, c.in_err-id.was) depth 12)

pub returns-then-own : goal.returns-then-own
returns-then-own c = search (head-laws, c.in_ok-id.was) depth 12

pub returns : goal.returns
returns c = search (head-laws, c.in_ok-id.was) depth 12
