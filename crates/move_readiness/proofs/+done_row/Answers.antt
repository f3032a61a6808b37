use Rattle.move_readiness.proofs.DoneLaws.{done-row-laws}
use Rattle.move_readiness.proofs.+done_row.Goals as goal

pub returns-then-left-eq0 : goal.returns-then-left-eq0
returns-then-left-eq0 t c = search done-row-laws depth 12

pub returns-then-done_row : goal.returns-then-done_row
returns-then-done_row t c = search done-row-laws depth 12

pub returns-in-Settled : goal.returns-in-Settled
returns-in-Settled t c = search done-row-laws depth 12

pub returns-in-One : goal.returns-in-One
returns-in-One t c = search done-row-laws depth 12

pub returns-else-done_row : goal.returns-else-done_row
returns-else-done_row t c = search done-row-laws depth 12
