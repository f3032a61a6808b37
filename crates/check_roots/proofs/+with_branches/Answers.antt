use Rattle.check_roots.proofs.RootLaws.{branch-laws}
use Rattle.check_roots.proofs.+with_branches.Goals as goal

pub returns-then-n-eq0 : goal.returns-then-n-eq0
returns-then-n-eq0 t c = search branch-laws depth 12

pub returns : goal.returns
returns t c = search branch-laws depth 12
