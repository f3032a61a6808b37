use native.Mathlib.Omega.{arith}
use Rattle.move_targets.proofs.NamedLaws.{unnamed-next, unnamed-here, unnamed-all}
use Rattle.move_targets.proofs.named_input.Goals as goal

pub returns-then-named : goal.returns-then-named
returns-then-named c =
    unnamed-here c.args.file.now c.args.q c.args.id c.loop-i.i c.loop-i.invariant (omega arith) c.named.ensures c.if-named.true

pub loop-i-preserved : goal.loop-i-preserved
loop-i-preserved c =
    unnamed-next c.args.file.now c.args.q c.args.id c.loop-i.i c.loop-i.invariant (omega arith) c.named.ensures c.if-named.false

pub returns : goal.returns
returns c = unnamed-all c.args.file.now c.args.q c.args.id c.loop-i.i c.loop-i.invariant (omega arith)
