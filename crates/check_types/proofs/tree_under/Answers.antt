use borrow.Author.Tests.{ne_eqb}
use Rattle.check_types.proofs.Subtypes.{tree_laws}
use Rattle.check_types.proofs.tree_under.Goals as goal

pub returns-in_default : goal.returns-in_default
returns-in_default c = search tree_laws depth 12

pub returns-in_default-type_head : goal.returns-in_default-type_head
returns-in_default-type_head c = search tree_laws depth 12

pub returns-then-top-row : goal.returns-then-top-row
returns-then-top-row c = search tree_laws depth 12

pub returns-else-top-row : goal.returns-else-top-row
returns-else-top-row c = rw (ne_eqb _ _ c.if-top-row.false) (search tree_laws depth 12)
