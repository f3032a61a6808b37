use Rattle.tree_edit.proofs.Copying.{push-last, push-next, missing-short}
use Rattle.tree.specs.IdsLaws.{steps_next}
use native.Mathlib.Omega.{arith}
use borrow.Author.Rules.{rules}
use lib.ListN.{length}
use mathlib.Core.Path.{◌≡◌, sym, ◌∙◌}
use Rattle.tree_edit.proofs.+push_steps.Goals as goal

pub returns-then-is_last : goal.returns-then-is_last
returns-then-is_last t c = push-last c.args.typed _ _ _ c.requires.0 c.push_id-a.ensures (sym c.is_last.ensures ∙ c.if-is_last.true)

pub push_steps-requires : goal.push_steps-requires
push_steps-requires t c =
    let l : length c.args.ids ≡ 4 = search rules in
    let p = steps_next c.args.ids c.args.k l (sym c.is_last.ensures ∙ c.if-is_last.false) in
    (omega (arith, c.requires, p.0), (p.0, omega (arith, p.0, c.requires.0, c.requires.1, c.push_id-a.auto.out, c.push_missing-b.auto.out, c.push_id-a.ensures.next, c.push_missing-b.ensures.next, missing-short c.args.typed)))

pub returns : goal.returns
returns t c =
    let l : length c.args.ids ≡ 4 = search rules in
    let p = steps_next c.args.ids c.args.k l (sym c.is_last.ensures ∙ c.if-is_last.false) in
    push-next c.args.typed _ _ _ c.requires.0 c.push_id-a.ensures _ _ c.push_missing-b.ensures c.push_steps.ensures p.0 p.1
