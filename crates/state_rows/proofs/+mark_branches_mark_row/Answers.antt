use Rattle.state_rows.proofs.MarkLaws.{row_laws, branch-laws}
use Rattle.state_rows.proofs.+mark_branches_mark_row.Goals as goal

pub mark_branches-returns-then-n-eq0 : goal.mark_branches-returns-then-n-eq0
mark_branches-returns-then-n-eq0 t c = search branch-laws depth 12

pub mark_branches-returns-then-n-eq1 : goal.mark_branches-returns-then-n-eq1
mark_branches-returns-then-n-eq1 t c = search branch-laws depth 12

pub mark_branches-returns : goal.mark_branches-returns
mark_branches-returns t c = search branch-laws depth 12

pub mark_row-returns-then-left-eq0 : goal.mark_row-returns-then-left-eq0
mark_row-returns-then-left-eq0 t c = search row_laws depth 12

pub mark_row-returns-in-Nothing : goal.mark_row-returns-in-Nothing
mark_row-returns-in-Nothing t c = search row_laws depth 12

pub mark_row-returns-in-One : goal.mark_row-returns-in-One
mark_row-returns-in-One t c = search row_laws depth 12

pub mark_row-returns-in-Two : goal.mark_row-returns-in-Two
mark_row-returns-in-Two t c = search row_laws depth 12

pub mark_row-returns-in-Run : goal.mark_row-returns-in-Run
mark_row-returns-in-Run t c = search row_laws depth 12
