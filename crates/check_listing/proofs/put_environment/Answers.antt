use native.Mathlib.Omega.{arith}
use Rattle.check_listing.proofs.Records.{environment-wrote, at-start, at-end, at-past, at-deep, at-next}
use Rattle.check_listing.proofs.put_environment.Goals as goal

pub loop-i-init : goal.loop-i-init
loop-i-init c = at-start _ _ _ _ _ _

pub returns-in_default : goal.returns-in_default
returns-in_default c =
    environment-wrote c.node_count-n.ensures.0 (at-past c.loop-i.invariant _ c.loop-i-test.true c.node_at.ensures c.in_default.is)

pub returns-then-x-gt6 : goal.returns-then-x-gt6
returns-then-x-gt6 c =
    environment-wrote c.node_count-n.ensures.0 (at-deep c.loop-i.invariant _ c.in-Some.x c.node_at.ensures c.in-Some.is c.if-x-gt6.true)

pub put_node-at-requires : goal.put_node-at-requires
put_node-at-requires c = (
  omega (arith, c.loop-i.invariant.near, c.loop-i.auto.out, c.requires, c.node_count-n.ensures.0, c.loop-i-test.true),
  omega (arith, c.if-x-gt6.false),
)

pub loop-i-preserved : goal.loop-i-preserved
loop-i-preserved c =
    at-next c.loop-i.invariant _ c.in-Some.x c.loop-i-test.true c.node_at.ensures c.in-Some.is c.put_node-at.ensures

pub returns : goal.returns
returns c =
    environment-wrote c.node_count-n.ensures.0 (at-end c.loop-i.invariant c.loop-i-test.false
    (omega (arith, c.loop-i.auto.out, c.requires, c.node_count-n.ensures.0)) c.loop-i.auto.i-end)
