use native.Mathlib.Omega.{arith}
use Rattle.move_targets.proofs.TargetLaws.{unstarted-here, unstarted-next, unstarted-all}
use Rattle.move_targets.proofs.start_among.Goals as goal

pub returns-then-names_input : goal.returns-then-names_input
returns-then-names_input c =
    unstarted-here c.args.file.now c.args.w c.args.c c.args.at c.args.n c.loop-k.k c.loop-k.invariant (omega arith) c.branch_at-a.ensures
    (omega (arith, c.from.ensures)) c.names_input.ensures c.if-names_input.true

pub loop-k-preserved : goal.loop-k-preserved
loop-k-preserved c =
    unstarted-next c.args.file.now c.args.w c.args.c c.args.at c.args.n c.loop-k.k c.loop-k.invariant (omega arith) c.branch_at-a.ensures
    (omega (arith, c.from.ensures)) c.names_input.ensures c.if-names_input.false

pub returns : goal.returns
returns c = unstarted-all c.args.file.now c.args.w c.args.c c.args.at c.args.n c.loop-k.k c.loop-k.invariant (omega arith)
