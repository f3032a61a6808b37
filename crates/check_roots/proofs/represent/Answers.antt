use mathlib.Core.Path.{refl}
use native.Mathlib.Omega.{arith}
use Rattle.check_roots.proofs.SetLaws.{doing-more}
use Rattle.check_roots.proofs.represent.Goals as goal

pub loop-p-preserved : goal.loop-p-preserved
loop-p-preserved c =
    doing-more _ _ _ _ _ _ _ _ _ _ c.loop-p.invariant c.loop-p-test.true refl c.path_at-from.ensures.0 c.u16_at.ensures c.from-id.ensures
    (omega (arith, c.from-id.ensures, c.u16_at.type_inv)) refl
