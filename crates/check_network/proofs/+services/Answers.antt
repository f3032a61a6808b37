use Rattle.check_network.proofs.AnswerLaws.{services-none, services-first, services-later, services-done}
use Rattle.check_network.proofs.+services.Goals as goal

pub returns-then-n-eq0 : goal.returns-then-n-eq0
returns-then-n-eq0 t c = services-none _ _ _ c.if-n-eq0.true c.verdict_only.ensures

pub returns-in-Err : goal.returns-in-Err
returns-in-Err t c = services-first _ _ _ c.if-n-eq0.false c.service.ensures c.in-Err.is c.verdict_only-in-Err.ensures

pub returns-in-Err-verdict : goal.returns-in-Err-verdict
returns-in-Err-verdict t c =
    services-later _ _ _ c.if-n-eq0.false c.service.ensures c.in-Ok.is c.services-others.ensures c.in-Err-verdict.is c.verdict_only-in-Err-verdict.ensures

pub returns : goal.returns
returns t c =
    services-done _ _ _ c.if-n-eq0.false c.service.ensures c.in-Ok.is c.services-others.ensures c.in_default.is c.with_first.ensures
