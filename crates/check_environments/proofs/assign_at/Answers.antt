use Rattle.check_environments.proofs.Assigning.{at-laws}
use Rattle.check_environments.proofs.assign_at.Goals.{then-node-via-then-node, then-node-via-else-node+then-no_mandatory}
use Rattle.check_environments.proofs.assign_at.Goals as goal

pub returns-in_default : goal.returns-in_default
returns-in_default c = search at-laws depth 12

pub returns-then-b-node : goal.returns-then-b-node
returns-then-b-node c = search at-laws depth 12

pub returns-then-node : goal.returns-then-node
returns-then-node c = elim c.then-node.branch [ then-node-via-then-node w ↦ search at-laws depth 12 | then-node-via-else-node+then-no_mandatory w ↦ search at-laws depth 12 ]

pub returns : goal.returns
returns c = search at-laws depth 12
