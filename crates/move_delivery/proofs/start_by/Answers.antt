use Rattle.move_delivery.proofs.Delivering.{by-large, by-laws}
use borrow.Author.Rules.{rules}
use Rattle.std.proofs.Common.{◌≡◌, ◌∙◌, ap}
use Rattle.std.specs.Result.{result_ok}
use Rattle.std.specs.Prelude.{Some, None, Err}
use Rattle.refusal.specs.declared.Refusal.TheVariants.{Stuck}
use Rattle.move_delivery.proofs.start_by.Goals as goal

pub returns-in_err-n : goal.returns-in_err-n
returns-in_err-n c =
    let e : c.start_tree.result ≡ None = c.ok_or.ensures.ok_part ∙ ap result_ok c.in_err-n.was in
    let z : c.from_residual.result ≡ Err Stuck = search rules in
    rw z (by-large c.start_tree.ensures e)

pub returns-then-c-gt255 : goal.returns-then-c-gt255
returns-then-c-gt255 c =
    let e : c.start_tree.result ≡ Some c.in_ok-n.n = c.ok_or.ensures.ok_part ∙ ap result_ok c.in_ok-n.was in
    search (by-laws, rules) depth 12

pub returns-then-a-gt255 : goal.returns-then-a-gt255
returns-then-a-gt255 c =
    let e : c.start_tree.result ≡ Some c.in_ok-n.n = c.ok_or.ensures.ok_part ∙ ap result_ok c.in_ok-n.was in
    search (by-laws, rules) depth 12

pub returns : goal.returns
returns c =
    let e : c.start_tree.result ≡ Some c.in_ok-n.n = c.ok_or.ensures.ok_part ∙ ap result_ok c.in_ok-n.was in
    search (by-laws, rules) depth 12
