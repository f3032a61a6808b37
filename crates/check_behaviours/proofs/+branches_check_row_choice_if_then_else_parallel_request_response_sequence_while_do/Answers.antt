use Rattle.std.proofs.lemmas.Result.{err_from_is_err_and}
use Rattle.check_behaviours.proofs.CheckLaws.{branches-laws, row_laws, parallel-laws}
use Rattle.check_behaviours.proofs.CheckLaws.{branches-refused, branches-more, choice-refused, choice-done, if-refused, if-then, if-else, if-done}
use Rattle.check_behaviours.proofs.CheckLaws.{response-refused, response-body, response-done, sequence-refused, sequence-done, while-refused, while-body, while-done}
use Rattle.check_behaviours.proofs.+branches_check_row_choice_if_then_else_parallel_request_response_sequence_while_do.Goals as goal

pub branches-returns-then-n-eq0 : goal.branches-returns-then-n-eq0
branches-returns-then-n-eq0 t c = search branches-laws depth 12

pub branches-returns-in_err-x : goal.branches-returns-in_err-x
branches-returns-in_err-x t c =
    let p = err_from_is_err_and c.from_residual.result c.from_residual.ensures.1 in
    rw (p.1, p.2) (branches-refused _ _ _ _ _ _ _ c.if-n-eq0.false c.branch_at-row.ensures c.sequence.ensures _ _ c.in_err-x.was)

pub branches-returns : goal.branches-returns
branches-returns t c =
    branches-more _ _ _ _ _ _ _ c.if-n-eq0.false c.branch_at-row.ensures c.sequence.ensures _ _ c.in_ok-x.was c.same.ensures c.both-again.ensures c.branches.ensures

pub check_row-returns-in-Nil : goal.check_row-returns-in-Nil
check_row-returns-in-Nil t c = search row_laws depth 12

pub check_row-returns-in-OneWay : goal.check_row-returns-in-OneWay
check_row-returns-in-OneWay t c = search row_laws depth 12

pub check_row-returns-in-RequestResponse : goal.check_row-returns-in-RequestResponse
check_row-returns-in-RequestResponse t c = search row_laws depth 12

pub check_row-returns-in-Notification : goal.check_row-returns-in-Notification
check_row-returns-in-Notification t c = search row_laws depth 12

pub check_row-returns-in-SolicitResponse : goal.check_row-returns-in-SolicitResponse
check_row-returns-in-SolicitResponse t c = search row_laws depth 12

pub check_row-returns-in-If : goal.check_row-returns-in-If
check_row-returns-in-If t c = search row_laws depth 12

pub check_row-returns-in-While : goal.check_row-returns-in-While
check_row-returns-in-While t c = search row_laws depth 12

pub check_row-returns-in-Sequence : goal.check_row-returns-in-Sequence
check_row-returns-in-Sequence t c = search row_laws depth 12

pub check_row-returns-in-Parallel : goal.check_row-returns-in-Parallel
check_row-returns-in-Parallel t c = search row_laws depth 12

pub check_row-returns-in-Assign : goal.check_row-returns-in-Assign
check_row-returns-in-Assign t c = search row_laws depth 12

pub check_row-returns-in-Choice : goal.check_row-returns-in-Choice
check_row-returns-in-Choice t c = search row_laws depth 12

pub check_row-returns-in-Branch : goal.check_row-returns-in-Branch
check_row-returns-in-Branch t c = search row_laws depth 12

pub check_row-returns-in-Unknown : goal.check_row-returns-in-Unknown
check_row-returns-in-Unknown t c = search row_laws depth 12

pub choice-returns-in_err-d : goal.choice-returns-in_err-d
choice-returns-in_err-d t c =
    let p = err_from_is_err_and c.from_residual.result c.from_residual.ensures.1 in
    rw (p.1, p.2) (choice-refused _ _ _ _ _ _ _ _ c.if-n-eq0.false c.behaviour_at-at.ensures.0 c.branch_at-row.ensures c.sequence.ensures c.in_err-d.was)

pub choice-returns : goal.choice-returns
choice-returns t c =
    choice-done _ _ _ _ _ _ _ _ c.if-n-eq0.false c.behaviour_at-at.ensures.0 c.branch_at-row.ensures c.sequence.ensures c.in_ok-d.was c.branches.ensures

pub if_then_else-returns-in_err-condition : goal.if_then_else-returns-in_err-condition
if_then_else-returns-in_err-condition t c =
    let p = err_from_is_err_and c.from_residual.result c.from_residual.ensures.1 in
    rw (p.1, p.2) (if-refused _ _ _ _ _ _ _ _ c.condition.ensures c.in_err-condition.was)

pub if_then_else-returns-in_err-d : goal.if_then_else-returns-in_err-d
if_then_else-returns-in_err-d t c =
    let p = err_from_is_err_and c.from_residual-in_err-d.result c.from_residual-in_err-d.ensures.1 in
    rw (p.1, p.2) (if-then _ _ _ _ _ _ _ _ c.condition.ensures c.in_ok-condition.was c.check_row.ensures c.in_err-d.was)

pub if_then_else-returns-in_err-f : goal.if_then_else-returns-in_err-f
if_then_else-returns-in_err-f t c =
    let p = err_from_is_err_and c.from_residual-in_err-f.result c.from_residual-in_err-f.ensures.1 in
    rw (p.1, p.2) (if-else _ _ _ _ _ _ _ _ c.condition.ensures c.in_ok-condition.was c.check_row.ensures c.in_ok-d.was c.check_row-2.ensures c.in_err-f.was)

pub if_then_else-returns : goal.if_then_else-returns
if_then_else-returns t c =
    if-done _ _ _ _ _ _ _ _ c.condition.ensures c.in_ok-condition.was c.check_row.ensures c.in_ok-d.was c.check_row-2.ensures c.in_ok-f.was c.agree.ensures

pub parallel-returns-then-not-apart : goal.parallel-returns-then-not-apart
parallel-returns-then-not-apart t c = search parallel-laws depth 12

pub parallel-returns : goal.parallel-returns
parallel-returns t c = search parallel-laws depth 12

pub request_response-returns-in_err-d : goal.request_response-returns-in_err-d
request_response-returns-in_err-d t c =
    let p = err_from_is_err_and c.from_residual.result c.from_residual.ensures.1 in
    rw (p.1, p.2) (response-refused _ _ _ _ _ _ _ _ _ c.receive.ensures c.in_err-d.was)

pub request_response-returns-in_err-f : goal.request_response-returns-in_err-f
request_response-returns-in_err-f t c =
    let p = err_from_is_err_and c.from_residual-in_err-f.result c.from_residual-in_err-f.ensures.1 in
    rw (p.1, p.2) (response-body _ _ _ _ _ _ _ _ _ c.receive.ensures c.in_ok-d.was c.check_row.ensures c.in_err-f.was)

pub request_response-returns : goal.request_response-returns
request_response-returns t c =
    response-done _ _ _ _ _ _ _ _ _ c.receive.ensures c.in_ok-d.was c.check_row.ensures c.in_ok-f.was c.reply_type.ensures c.ask.ensures

pub sequence-returns-in_err-d : goal.sequence-returns-in_err-d
sequence-returns-in_err-d t c =
    let p = err_from_is_err_and c.from_residual.result c.from_residual.ensures.1 in
    rw (p.1, p.2) (sequence-refused _ _ _ _ _ _ c.check_row.ensures c.in_err-d.was)

pub sequence-returns : goal.sequence-returns
sequence-returns t c = sequence-done _ _ _ _ _ _ c.check_row.ensures c.in_ok-d.was c.check_row-2.ensures

pub while_do-returns-in_err-condition : goal.while_do-returns-in_err-condition
while_do-returns-in_err-condition t c =
    let p = err_from_is_err_and c.from_residual.result c.from_residual.ensures.1 in
    rw (p.1, p.2) (while-refused _ _ _ _ _ _ _ c.condition.ensures c.in_err-condition.was)

pub while_do-returns-in_err-d : goal.while_do-returns-in_err-d
while_do-returns-in_err-d t c =
    let p = err_from_is_err_and c.from_residual-in_err-d.result c.from_residual-in_err-d.ensures.1 in
    rw (p.1, p.2) (while-body _ _ _ _ _ _ _ c.condition.ensures c.in_ok-condition.was c.check_row.ensures c.in_err-d.was)

pub while_do-returns : goal.while_do-returns
while_do-returns t c =
    while-done _ _ _ _ _ _ _ c.condition.ensures c.in_ok-condition.was c.check_row.ensures c.in_ok-d.was c.agree.ensures
