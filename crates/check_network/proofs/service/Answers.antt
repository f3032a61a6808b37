use Rattle.std.proofs.lemmas.Result.{err_from_is_err_and}
use Rattle.check_network.proofs.AnswerLaws.{service-starter, service-client, service-done}
use Rattle.check_network.proofs.service.Goals as goal

pub returns-in_err-x : goal.returns-in_err-x
returns-in_err-x c =
    let p = err_from_is_err_and c.from_residual.result c.from_residual.ensures.1 in
    rw (p.1, p.2) (service-starter _ _ c.starter.ensures c.in_err-x.was)

pub returns-in_err-y : goal.returns-in_err-y
returns-in_err-y c =
    let p = err_from_is_err_and c.from_residual-in_err-y.result c.from_residual-in_err-y.ensures.1 in
    rw (p.1, p.2) (service-client _ _ c.starter.ensures c.in_ok-x.was c.client.ensures c.in_err-y.was)

pub returns : goal.returns
returns c = service-done _ _ c.starter.ensures c.in_ok-x.was c.client.ensures c.in_ok-y.was
