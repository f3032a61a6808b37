use native.Mathlib.Omega.{arith}
use Rattle.std.specs.Prelude.{refl}
use Rattle.check_listing.proofs.Records.{ids-none, ids-next, ids-end}
use Rattle.check_listing.proofs.put_ids.Goals as goal

pub loop-id-init : goal.loop-id-init
loop-id-init c = ids-none c.args.out.now c.args.ids c.args.w (omega (arith, c.requires))

pub push_id-at-requires : goal.push_id-at-requires
push_id-at-requires c = omega (arith, c.loop-id.invariant.next, c.loop-id.auto.out, c.requires, c.loop-id-test.true)

pub loop-id-preserved : goal.loop-id-preserved
loop-id-preserved c = ids-next c.args.ids c.loop-id.id-index c.loop-id-test.true refl c.loop-id.invariant c.push_id-at.ensures

pub returns : goal.returns
returns c =
    ids-end c.args.ids c.loop-id.id-index (omega (arith, c.loop-id-test.false, c.loop-id.auto.id-index-end)) c.loop-id.invariant
