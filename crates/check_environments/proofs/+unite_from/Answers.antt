use Rattle.std.proofs.lemmas.Result.{err_from_is_err_and}
use Rattle.check_environments.proofs.Uniting.{unite-laws}
use Rattle.check_environments.proofs.+unite_from.Goals as goal

pub returns-then-n-eq0 : goal.returns-then-n-eq0
returns-then-n-eq0 t c = search unite-laws depth 12

pub returns-in_default : goal.returns-in_default
returns-in_default t c = search unite-laws depth 12

pub returns-in_err-f : goal.returns-in_err-f
returns-in_err-f t c =
    let p = err_from_is_err_and c.from_residual.result c.from_residual.ensures.1 in
    rw (p.1, p.2) (search (unite-laws, c.in_err-f.was) depth 12)

pub returns : goal.returns
returns t c = search (unite-laws, c.in_ok-f.was) depth 12
