use mathlib.Core.Path.{refl}
use Prim.Native.Nat.{◌+◌, ◌*◌, ◌<◌}
use native.Mathlib.Omega.{arith}
use lib.ListN.{get_or}
use lib.Bits.{and_le_l}
use Rattle.check_roots.proofs.SetLaws.{common-more}
use Rattle.check_roots.proofs.apart.Goals as goal

pub loop-k-preserved : goal.loop-k-preserved
loop-k-preserved c =
    let x = get_or c.args.sets.now (32 * c.from-p.result + c.loop-k.k) 0 in
    let y = get_or c.args.sets.now (32 * c.from-q.result + c.loop-k.k) 0 in
    let h : x < 256 = (c.type_inv.sets (32 * c.from-p.result + c.loop-k.k)).fits in
    common-more _ _ _ _ _ _ _ _ _ c.loop-k.invariant c.loop-k-test.true refl refl c.from-common.ensures (omega (arith, c.from-common.ensures, and_le_l x y)) refl
