use native.Mathlib.Omega.{arith}
use Rattle.move_readiness.proofs.ReachLaws.{unoffered-here, unoffered-next, unoffered-all}
use Rattle.move_readiness.proofs.offer.Goals as goal

pub returns-then-i-a : goal.returns-then-i-a
returns-then-i-a c =
    unoffered-here c.args.file.now c.args.c c.args.i c.args.at c.args.n c.loop-k.k c.loop-k.invariant (omega arith) c.branch_at-a.ensures
    (omega (arith, c.from.ensures)) c.if-i-a.true

pub loop-k-preserved : goal.loop-k-preserved
loop-k-preserved c =
    unoffered-next c.args.file.now c.args.c c.args.i c.args.at c.args.n c.loop-k.k c.loop-k.invariant (omega arith) c.branch_at-a.ensures
    (omega (arith, c.from.ensures)) c.if-i-a.false

pub returns : goal.returns
returns c = unoffered-all c.args.file.now c.args.c c.args.i c.args.at c.args.n c.loop-k.k c.loop-k.invariant (omega arith)
