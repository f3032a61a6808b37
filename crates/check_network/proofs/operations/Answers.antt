use Rattle.std.proofs.lemmas.Result.{err_from_is_err_and}
use Rattle.check_network.proofs.AnswerLaws.{operations-unmet, operations-met}
use Rattle.check_network.proofs.operations.Goals as goal

pub returns-in_err-check_outputs : goal.returns-in_err-check_outputs
returns-in_err-check_outputs c =
    let p = err_from_is_err_and c.from_residual.result c.from_residual.ensures.1 in
    rw (p.1, p.2) (operations-unmet _ c.check_outputs.ensures c.in_err-check_outputs.was)

pub returns : goal.returns
returns c = operations-met _ c.check_outputs.ensures c.in_ok-check_outputs.was c.check_keys.ensures
