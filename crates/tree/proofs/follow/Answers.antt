use Rattle.tree.proofs.Walking.{follow-stop, follow-gone, follow-on, follow-end}
use Rattle.tree.proofs.follow.Goals as goal

pub returns-then-id-eq0 : goal.returns-then-id-eq0
returns-then-id-eq0 c = search (follow-stop) depth 12

pub returns-in_err-at : goal.returns-in_err-at
returns-in_err-at c = rw c.from_residual.ensures (search (follow-gone, c.in_err-at.was) depth 12)

pub loop-id-preserved : goal.loop-id-preserved
loop-id-preserved c = (c.loop-id.invariant.0, search (follow-on, c.in_ok-at.was) depth 12)

pub returns : goal.returns
returns c = search (follow-end) depth 12
