use mathlib.Core.Path.{◌≡◌, sym, ◌∙◌}
use lib.ListN.{length}
use Rattle.tree.specs.IdsLaws.{steps_next}
use Rattle.tree_edit.proofs.Locating.{locate-laws, locate-deep}
use borrow.Author.Rules.{rules}
use native.Mathlib.Omega.{arith}
use Rattle.tree_edit.proofs.+locate.Goals as goal

pub returns-then-n-eq0 : goal.returns-then-n-eq0
returns-then-n-eq0 t c = search locate-laws depth 12

pub returns-in_default : goal.returns-in_default
returns-in_default t c = search locate-laws depth 12

pub returns-then-id-node : goal.returns-then-id-node
returns-then-id-node t c = search locate-laws depth 12

pub returns-then-node-id : goal.returns-then-node-id
returns-then-node-id t c = search locate-laws depth 12

pub returns-then-is_last : goal.returns-then-is_last
returns-then-is_last t c = search locate-laws depth 12

pub locate-requires-2 : goal.locate-requires-2
locate-requires-2 t c =
    let l : length c.args.ids ≡ 4 = search rules in
    let p = steps_next c.args.ids c.args.k l (sym c.is_last.ensures ∙ c.if-is_last.false) in
    (omega (arith, p.0), p.0)

pub returns : goal.returns
returns t c =
    let l : length c.args.ids ≡ 4 = search rules in
    search (locate-deep c.args.s.now c.args.ids) depth 12
