use mathlib.Core.Path.{◌≡◌, refl}
use lib.ListN.{length}
use native.Mathlib.Omega.{arith}
use Rattle.check_roots.proofs.SetLaws.{path-set}
use Rattle.check_roots.proofs.with_path.Goals as goal

pub returns : goal.returns
returns c =
    let n : length c.args.set ≡ 32 = search c.well_formed in
    path-set _ _ _ _ _ _ _ _ _ _ _ n c.path_at.ensures.0 c.u16_at.ensures c.from-id.ensures c.from-k.ensures
    (omega (arith, c.from-k.ensures, c.fits-table c.from-id.result)) refl c.power.ensures refl
