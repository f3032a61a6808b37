use borrow.Author.Tests.{ne_eqb}
use Rattle.check_types.proofs.Subtypes.{basic-laws}
use Rattle.check_types.proofs.basic_under.Goals as goal

pub returns-in_default : goal.returns-in_default
returns-in_default c = search basic-laws depth 12

pub returns-then-b-row : goal.returns-then-b-row
returns-then-b-row c = search basic-laws depth 12

pub returns-else-b-row : goal.returns-else-b-row
returns-else-b-row c = rw (ne_eqb _ _ c.if-b-row.false) (search basic-laws depth 12)
