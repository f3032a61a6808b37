use Rattle.network_uses.proofs.MarkLaws.{run-laws, run_more}
use Rattle.std.proofs.Common.{refl}
use Rattle.network_uses.proofs.use_run.Goals as goal

pub loop-i-init : goal.loop-i-init
loop-i-init c = search run-laws depth 12

pub loop-i-preserved : goal.loop-i-preserved
loop-i-preserved c = run_more _ _ _ _ _ _ _ _ _ _ _ c.clipped-i-end.ensures c.loop-i.invariant c.loop-i-test.true c.use_row-again.ensures refl

pub returns : goal.returns
returns c = search run-laws depth 12
