use mathlib.Core.Logic.{inl, inr}
use Rattle.tree.proofs.Scanning.{going-flat, going-full, kids-laws}
use Rattle.tree.proofs.+kids.Goals as goal

pub returns-then-deep-eq0 : goal.returns-then-deep-eq0
returns-then-deep-eq0 t c =
    let w = c.loop-more.invariant in
    let h = c.loop-more-test.true in
    elim c.then-deep-eq0.either [ inl d ↦ going-flat w h d | inr f ↦ going-full w h f.0 f.1 ]

pub returns-in_err-node : goal.returns-in_err-node
returns-in_err-node t c = rw c.from_residual.ensures (search (kids-laws, c.in_err-node.was) depth 12)

pub returns-then-node-before : goal.returns-then-node-before
returns-then-node-before t c = search (kids-laws, c.in_ok-node.was) depth 12

pub loop-more-preserved-then-more-eq0 : goal.loop-more-preserved-then-more-eq0
loop-more-preserved-then-more-eq0 t c = search (kids-laws, c.in_ok-node.was) depth 12

pub returns-in_err-next : goal.returns-in_err-next
returns-in_err-next t c = rw c.from_residual-in_err-next.ensures (search (kids-laws, c.in_ok-node.was, c.in_err-next.was) depth 12)

pub loop-more-preserved-else-more-eq0 : goal.loop-more-preserved-else-more-eq0
loop-more-preserved-else-more-eq0 t c = search (kids-laws, c.in_ok-node.was, c.in_ok-next.was) depth 12

pub loop-more-preserved : goal.loop-more-preserved
loop-more-preserved t c = search (kids-laws, c.in_ok-node.was) depth 12

pub returns : goal.returns
returns t c = search kids-laws depth 12
