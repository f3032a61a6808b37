use Rattle.std.specs.Prelude.{Ok}
use Rattle.std.proofs.Common.{ap, ◌∙◌}
use Rattle.std.proofs.lemmas.Result.{err_from_is_err_and}
use Rattle.check_behaviours.proofs.CheckLaws.{assigned-refused, assigned-at, assigned-leaf}
use Rattle.check_behaviours.proofs.assign.Goals as goal

pub returns-in_err-b : goal.returns-in_err-b
returns-in_err-b c =
    let p = err_from_is_err_and c.from_residual.result c.from_residual.ensures.1 in
    rw (p.1, p.2) (assigned-refused _ _ _ _ _ _ c.type_of.ensures c.in_err-b.was)

pub returns-in-At : goal.returns-in-At
returns-in-At c = assigned-at _ _ _ _ _ _ c.type_of.ensures (c.in_ok-b.was ∙ ap (λ y. Ok y) c.in-At.is) c.assign.ensures

pub returns-in-Leaf : goal.returns-in-Leaf
returns-in-Leaf c =
    assigned-leaf _ _ _ _ _ _ c.type_of.ensures (c.in_ok-b.was ∙ ap (λ y. Ok y) c.in-Leaf.is) c.assign-in-Leaf.ensures
