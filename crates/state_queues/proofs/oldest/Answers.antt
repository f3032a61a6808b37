use Rattle.state_queues.proofs.Reading.{unfound-none, unfound-here, unfound-more, unfound-all}
use native.Mathlib.Omega.{arith}
use Rattle.state_queues.proofs.oldest.Goals as goal

pub loop-k-init : goal.loop-k-init
loop-k-init c = unfound-none _ _ _

pub returns-then-operation_at-w : goal.returns-then-operation_at-w
returns-then-operation_at-w c =
    unfound-here _ _ _ _ c.count-k-end.ensures c.loop-k.invariant (omega arith) c.entry_start.ensures c.operation_at.ensures c.if-operation_at-w.true

pub loop-k-preserved : goal.loop-k-preserved
loop-k-preserved c =
    unfound-more _ _ _ _ c.count-k-end.ensures c.loop-k.invariant (omega arith) c.entry_start.ensures c.operation_at.ensures c.if-operation_at-w.false

pub returns : goal.returns
returns c = unfound-all _ _ _ c.loop-k.k c.count-k-end.ensures c.loop-k.invariant (omega arith)
