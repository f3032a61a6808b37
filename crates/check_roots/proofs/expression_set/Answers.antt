use Rattle.check_roots.proofs.RootLaws.{operand-laws}
use Rattle.check_roots.proofs.expression_set.Goals as goal

pub returns-in-Nothing : goal.returns-in-Nothing
returns-in-Nothing c = search operand-laws depth 12

pub returns-in-Path : goal.returns-in-Path
returns-in-Path c = search operand-laws depth 12

pub returns-in-One : goal.returns-in-One
returns-in-One c = search operand-laws depth 12

pub returns-in-Two : goal.returns-in-Two
returns-in-Two c = search operand-laws depth 12
