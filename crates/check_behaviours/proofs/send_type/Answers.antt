use Rattle.std.specs.Prelude.{Ok}
use Rattle.std.proofs.Common.{ap, ◌∙◌}
use Rattle.std.proofs.lemmas.Result.{err_from_is_err_and}
use Rattle.check_behaviours.proofs.CheckLaws.{sent-refused, sent-at, sent-leaf, sent-at-not, sent-leaf-not}
use Rattle.check_behaviours.proofs.send_type.Goals as goal

pub returns-in_err-at : goal.returns-in_err-at
returns-in_err-at c =
    let p = err_from_is_err_and c.from_residual.result c.from_residual.ensures.1 in
    rw (p.1, p.2) (sent-refused _ _ _ _ _ c.type_of.ensures c.in_err-at.was)

pub returns-then-type_under : goal.returns-then-type_under
returns-then-type_under c =
    sent-at _ _ _ _ _ c.type_of.ensures (c.in_ok-at.was ∙ ap (λ y. Ok y) c.in-At.is) c.type_under.ensures c.if-type_under.true

pub returns-else-type_under : goal.returns-else-type_under
returns-else-type_under c =
    sent-at-not _ _ _ _ _ c.type_of.ensures (c.in_ok-at.was ∙ ap (λ y. Ok y) c.in-At.is) c.type_under.ensures c.if-type_under.false

pub returns-then-basic_under : goal.returns-then-basic_under
returns-then-basic_under c =
    sent-leaf _ _ _ _ _ c.type_of.ensures (c.in_ok-at.was ∙ ap (λ y. Ok y) c.in-Leaf.is) c.basic_under.ensures c.if-basic_under.true

pub returns-else-basic_under : goal.returns-else-basic_under
returns-else-basic_under c =
    sent-leaf-not _ _ _ _ _ c.type_of.ensures (c.in_ok-at.was ∙ ap (λ y. Ok y) c.in-Leaf.is) c.basic_under.ensures c.if-basic_under.false
