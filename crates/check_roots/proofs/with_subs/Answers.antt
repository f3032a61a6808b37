use Rattle.check_roots.proofs.RootLaws.{sub-laws}
use Rattle.check_roots.proofs.with_subs.Goals as goal

pub returns-in-Nothing : goal.returns-in-Nothing
returns-in-Nothing c = search sub-laws depth 12

pub returns-in-One : goal.returns-in-One
returns-in-One c = search sub-laws depth 12

pub returns-in-Two : goal.returns-in-Two
returns-in-Two c = search sub-laws depth 12

pub returns-in-Run : goal.returns-in-Run
returns-in-Run c = search sub-laws depth 12
