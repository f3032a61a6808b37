use Rattle.std.proofs.lemmas.Result.{err_from_is_err_and}
use Rattle.check_starters.proofs.StarterLaws.{start-laws, starts-refused, starts-joined}
use Rattle.check_starters.proofs.check_starter.Goals as goal

pub returns-in_default : goal.returns-in_default
returns-in_default c = search start-laws depth 12

pub returns-in-Some : goal.returns-in-Some
returns-in-Some c = search start-laws depth 12

pub returns-in_err-each : goal.returns-in_err-each
returns-in_err-each c =
    let p = err_from_is_err_and c.from_residual.result c.from_residual.ensures.1 in
    rw (p.1, p.2) (starts-refused _ _ _ c.behaviour_count-left.ensures c.behaviour_row.ensures c.in-Choice.is c.behaviour_at-at.ensures.0 c.each.ensures c.in_err-each.was)

pub returns : goal.returns
returns c =
    starts-joined _ _ _ c.behaviour_count-left.ensures c.behaviour_row.ensures c.in-Choice.is c.behaviour_at-at.ensures.0 c.each.ensures c.in_ok-each.was c.join.ensures
