use Rattle.check_environments.proofs.Growing.{row-grown}
use Rattle.check_environments.proofs.grow_row.Goals as goal

pub returns : goal.returns
returns c = search (row-grown) depth 12
