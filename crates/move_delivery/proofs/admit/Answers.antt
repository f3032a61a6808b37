use Rattle.move_delivery.proofs.Delivering.{admit-not, admit-another, admit-in}
use borrow.Author.Rules.{rules}
use Rattle.std.proofs.Common.{◌≡◌, ◌∙◌, ap}
use Rattle.std.specs.Result.{result_ok}
use Rattle.std.specs.Prelude.{Some, None, Err}
use Rattle.refusal.specs.declared.Refusal.TheVariants.{MoveNotAllowed}
use Rattle.move_delivery.proofs.admit.Goals as goal

pub returns-in_err-lets_in : goal.returns-in_err-lets_in
returns-in_err-lets_in c =
    let z : c.from_residual.result ≡ Err c.in_err-lets_in.field-0.0 = search rules in
    rw z (admit-not c.target_of-target.ensures c.operation_service.ensures c.from-q.ensures c.request_type-r.ensures c.lets_in.ensures c.in_err-lets_in.was)

pub returns-in_err-x : goal.returns-in_err-x
returns-in_err-x c =
    let e : c.find.result ≡ None = c.ok_or.ensures.ok_part ∙ ap result_ok c.in_err-x.was in
    let z : c.from_residual-in_err-x.result ≡ Err MoveNotAllowed = search rules in
    rw z (admit-another c.target_of-target.ensures c.operation_service.ensures c.from-q.ensures c.request_type-r.ensures c.lets_in.ensures c.in_ok-lets_in.was c.find.ensures e)

pub returns : goal.returns
returns c =
    let e : c.find.result ≡ Some c.in_ok-x.x = c.ok_or.ensures.ok_part ∙ ap result_ok c.in_ok-x.was in
    admit-in c.target_of-target.ensures c.operation_service.ensures c.from-q.ensures c.request_type-r.ensures c.lets_in.ensures c.in_ok-lets_in.was c.find.ensures e c.place.ensures
