use Rattle.std.proofs.Common.{◌≡◌, ◌+◌, ◌∙◌, rules, arith}
use Rattle.network_form.proofs.FormLaws.{walk-done, walk-flat, walk-full, walk-large, walk-leaf, walk-rest}
use Rattle.network_form.proofs.+walk.Goals.{in-0, in_default+in_ok-rest-in_default}
use Rattle.network_form.proofs.+walk.Goals as goal

pub returns-then-n-eq0 : goal.returns-then-n-eq0
returns-then-n-eq0 t c = search walk-done depth 12

pub returns-in_err-below : goal.returns-in_err-below
returns-in_err-below t c =
    let h = c.in_err-below.ensures in
    c.from_residual.ensures ∙ walk-flat _ _ _ _ _ c.if-n-eq0.false (omega arith)

pub returns-in_err-left : goal.returns-in_err-left
returns-in_err-left t c =
    let h = c.in_err-left.ensures in
    let a = c.in_ok-below.ensures in
    let b = a.0 in
    c.from_residual-in_err-left.ensures ∙ walk-full _ _ _ _ _ c.if-n-eq0.false (λ e. omega arith) (omega arith)

pub returns-in_err-rest-in_default : goal.returns-in_err-rest-in_default
returns-in_err-rest-in_default t c =
    let a = c.in_ok-below.ensures in
    let b = c.in_ok-left.ensures in
    c.from_residual-in_err-rest-in_default.ensures
    ∙ walk-large _ _ _ _ _ c.in_ok-below.below c.in_ok-left.left _ _ _ c.if-n-eq0.false (omega (arith, a.0, a.1)) (omega (arith, b.0, b.1))
    (search rules) (search rules) c.walk.ensures c.in_err-rest-in_default.was

pub returns : goal.returns
returns t c =
    let a = c.in_ok-below.ensures in
    let b = c.in_ok-left.ensures in
    let below : c.in_ok-below.below + 1 ≡ c.args.levels = omega (arith, a.0, a.1) in
    let left : c.in_ok-left.left + 1 ≡ c.args.left = omega (arith, b.0, b.1) in
    elim c.match-children_of.branch [
      | in-0 w ↦ walk-leaf _ _ _ _ _ _ _ _ _ c.if-n-eq0.false below left (search rules) w.in-0.is (rw w.rest-is at c.walk-2.ensures)
      | in_default+in_ok-rest-in_default w ↦
          walk-rest _ _ _ _ _ _ _ _ _ w.in_ok-rest-in_default.rest _ _ c.if-n-eq0.false below left (search rules) (search rules) w.walk.ensures w.in_ok-rest-in_default.was
          (rw w.rest-is at c.walk-2.ensures)
    ]
