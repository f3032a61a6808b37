use native.Mathlib.Omega.{arith}
use Rattle.move_targets.proofs.TargetLaws.{used-next, used-free, used-all}
use Rattle.move_targets.proofs.queue_length.Goals as goal

pub returns-then-byte_at-eq0 : goal.returns-then-byte_at-eq0
returns-then-byte_at-eq0 c = used-free c.args.state.now c.args.at c.args.n c.loop-k.k c.loop-k.invariant (omega arith) c.byte_at.ensures (omega (arith, c.from.ensures)) c.if-byte_at-eq0.true

pub loop-k-preserved : goal.loop-k-preserved
loop-k-preserved c = used-next c.args.state.now c.args.at c.args.n c.loop-k.k c.loop-k.invariant (omega arith) c.byte_at.ensures (omega (arith, c.from.ensures)) c.if-byte_at-eq0.false

pub returns : goal.returns
returns c = used-all c.args.state.now c.args.at c.args.n c.loop-k.k c.loop-k.invariant (omega arith)
