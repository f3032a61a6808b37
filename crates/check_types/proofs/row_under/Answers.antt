use borrow.Author.Tests.{ne_eqb}
use Rattle.check_types.proofs.Subtypes.{row_laws}
use Rattle.check_types.proofs.row_under.Goals as goal

pub returns-in_default : goal.returns-in_default
returns-in_default c = search row_laws depth 12

pub returns-in_default-type_head : goal.returns-in_default-type_head
returns-in_default-type_head c = search row_laws depth 12

pub returns-then-row-top : goal.returns-then-row-top
returns-then-row-top c = search row_laws depth 12

pub returns-else-row-top : goal.returns-else-row-top
returns-else-row-top c = rw (ne_eqb _ _ c.if-row-top.false) (search row_laws depth 12)
