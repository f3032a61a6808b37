use mathlib.Core.Path.{◌≡◌}
use lib.ListN.{length}
use Rattle.tree_part.proofs.Locating.{locate-laws, next-step}
use borrow.Author.Rules.{rules}
use native.Mathlib.Omega.{arith}
use Rattle.tree_part.proofs.+locate.Goals as goal

pub returns-then-n-eq0 : goal.returns-then-n-eq0
returns-then-n-eq0 t c = search locate-laws depth 12

pub returns-in_err-node : goal.returns-in_err-node
returns-in_err-node t c = rw c.from_residual.ensures (search (locate-laws, c.in_err-node.was) depth 12)

pub returns-then-id-node : goal.returns-then-id-node
returns-then-id-node t c = search (locate-laws, c.in_ok-node.was) depth 12

pub returns-then-node-id : goal.returns-then-node-id
returns-then-node-id t c = search (locate-laws, c.in_ok-node.was) depth 12

pub returns-then-is_last : goal.returns-then-is_last
returns-then-is_last t c = search (locate-laws, c.in_ok-node.was) depth 12

pub locate-requires-2 : goal.locate-requires-2
locate-requires-2 t c =
    let l : length c.args.ids ≡ 4 = search rules in
    let p = next-step c.args.ids c.args.k _ l c.is_last.ensures c.if-is_last.false in
    (omega (arith, p), p)

pub returns : goal.returns
returns t c = search (locate-laws, c.in_ok-node.was) depth 12
