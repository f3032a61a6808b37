use Rattle.tree.proofs.Skipping.{pass-start, pass-many, pass-empty, pass-short, pass-laws}
use Rattle.tree.proofs.extent.Goals as goal
use Rattle.tree.proofs.extent.Goals.{then-left-gt255-via-then-left-gt255, then-left-gt255-via-else-left-gt255+then-s-lt5, then-left-gt255-via-else-left-gt255+else-s-lt5+then-s-p}

pub loop-left-init : goal.loop-left-init
loop-left-init c = pass-start _ _

pub returns-then-left-gt255 : goal.returns-then-left-gt255
returns-then-left-gt255 c =
    let p = c.loop-left.invariant in
    let h = c.loop-left-test.true in
    elim c.then-left-gt255.branch [
      | then-left-gt255-via-then-left-gt255 w ↦ pass-many _ _ _ _ p _ w.if-left-gt255.true
      | then-left-gt255-via-else-left-gt255+then-s-lt5 w ↦ pass-empty _ _ _ _ p h _ w.if-s-lt5.true
      | then-left-gt255-via-else-left-gt255+else-s-lt5+then-s-p w ↦ pass-short _ _ _ _ p h _ w.if-s-p.true
    ]

pub returns-then-s-p-2 : goal.returns-then-s-p-2
returns-then-s-p-2 c = search pass-laws depth 12

pub loop-left-preserved : goal.loop-left-preserved
loop-left-preserved c = search pass-laws depth 12

pub returns : goal.returns
returns c = search pass-laws depth 12
