use Rattle.std.proofs.lemmas.Result.{err_from_is_err_and}
use Rattle.check_behaviours.proofs.CheckLaws.{solicit-refused, solicit-done}
use Rattle.check_behaviours.proofs.solicit_response.Goals as goal

pub returns-in_err-send : goal.returns-in_err-send
returns-in_err-send c =
    let p = err_from_is_err_and c.from_residual.result c.from_residual.ensures.1 in
    rw (p.1, p.2) (solicit-refused _ _ _ _ _ _ _ c.send.ensures c.in_err-send.was)

pub returns : goal.returns
returns c = solicit-done _ _ _ _ _ _ _ c.send.ensures c.in_ok-send.was c.reply_type.ensures c.place.ensures
