use Rattle.std.proofs.lemmas.Result.{err_from_is_err_and}
use Rattle.check_starters.proofs.StarterLaws.{each_none, each-refused, each-done}
use Rattle.check_starters.proofs.+each.Goals as goal

pub returns-then-n-eq0 : goal.returns-then-n-eq0
returns-then-n-eq0 t c = each_none _ _ _ _ _ c.if-n-eq0.true

pub returns-in_err-branch : goal.returns-in_err-branch
returns-in_err-branch t c =
    let p = err_from_is_err_and c.from_residual.result c.from_residual.ensures.1 in
    rw (p.1, p.2) (each-refused _ _ _ _ _ c.if-n-eq0.false c.branch-file.ensures c.in_err-branch.was)

pub returns : goal.returns
returns t c = each-done _ _ _ _ _ c.if-n-eq0.false c.branch-file.ensures c.in_ok-branch.was c.each.ensures
