use Rattle.std.proofs.lemmas.Result.{err_from_is_err_and}
use Rattle.check_starters.proofs.StarterLaws.{unite-none, unite-first, unite-refused, unite-more}
use Rattle.check_starters.proofs.+unite_all.Goals as goal

pub returns-then-n-eq0 : goal.returns-then-n-eq0
returns-then-n-eq0 t c = unite-none _ _ _ _ _ _ _ c.if-n-eq0.true

pub returns-in_err-d : goal.returns-in_err-d
returns-in_err-d t c =
    let p = err_from_is_err_and c.from_residual.result c.from_residual.ensures.1 in
    rw (p.1, p.2) (unite-first _ _ _ _ _ _ _ c.if-n-eq0.false c.branch-file.ensures c.in_err-d.was)

pub returns-in_err-more : goal.returns-in_err-more
returns-in_err-more t c =
    let p = err_from_is_err_and c.from_residual-in_err-more.result c.from_residual-in_err-more.ensures.1 in
    rw (p.1, p.2) (unite-refused _ _ _ _ _ _ _ c.if-n-eq0.false c.branch-file.ensures c.in_ok-d.was c.unite.ensures c.in_err-more.was)

pub returns : goal.returns
returns t c =
    unite-more _ _ _ _ _ _ _ c.if-n-eq0.false c.branch-file.ensures c.in_ok-d.was c.unite.ensures c.in_ok-more.was c.unite_all.ensures
