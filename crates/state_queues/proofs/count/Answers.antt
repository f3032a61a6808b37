use Rattle.state_queues.proofs.Reading.{passed-none, passed-here, passed-more, passed-all}
use native.Mathlib.Omega.{arith}
use Rattle.state_queues.proofs.count.Goals as goal

pub loop-k-init : goal.loop-k-init
loop-k-init c = passed-none _ _

pub returns-then-byte_at-eq0 : goal.returns-then-byte_at-eq0
returns-then-byte_at-eq0 c =
    (passed-here _ _ _ c.loop-k.invariant c.entry_start.ensures c.byte_at.ensures c.if-byte_at-eq0.true, omega arith)

pub loop-k-preserved : goal.loop-k-preserved
loop-k-preserved c =
    passed-more _ _ _ c.loop-k.invariant c.entry_start.ensures c.byte_at.ensures (omega arith) c.if-byte_at-eq0.false

pub returns : goal.returns
returns c = (passed-all _ _ c.loop-k.k (omega arith) (omega arith) c.loop-k.invariant, omega arith)
