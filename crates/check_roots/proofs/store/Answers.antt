use mathlib.Core.Path.{◌≡◌}
use lib.ListN.{length}
use Rattle.check_roots.proofs.SetLaws.{stored-part}
use Rattle.check_roots.proofs.store.Goals as goal

pub returns : goal.returns
returns c =
    let n : length c.args.set ≡ 32 = search c.well_formed in
    stored-part _ _ _ _ _ c.told-sets n c.from-from.ensures c.if-r-gt255.false c.copy_from_slice.ensures.after
