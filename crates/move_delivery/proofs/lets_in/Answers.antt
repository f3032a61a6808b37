use Rattle.move_delivery.proofs.Delivering.{let-not, let-own, let-come}
use Rattle.move_delivery.proofs.lets_in.Goals as goal
use borrow.Author.Rules.{rules}
use Rattle.std.proofs.Common.{◌≡◌}
use Rattle.std.specs.Prelude.{Err}

pub returns-in_err-allowed : goal.returns-in_err-allowed
returns-in_err-allowed c = let z : c.from_residual.result ≡ Err c.in_err-allowed.field-0.0 = search rules in rw z (let-not c.allowed.ensures c.in_err-allowed.was)
