use Rattle.check_starters.proofs.StarterLaws.{branch-laws}
use Rattle.check_starters.proofs.branch.Goals as goal

pub returns : goal.returns
returns c = search branch-laws depth 12
