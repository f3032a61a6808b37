use Rattle.check_environments.proofs.Growing.{leaf-grown}
use Rattle.check_environments.proofs.grow_leaf.Goals as goal

pub returns : goal.returns
returns c = search (leaf-grown) depth 12
