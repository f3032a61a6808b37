use Prim.Native.Nat.{◌*◌}
use lib.ListN.{take}
use Rattle.tree_edit.specs.Wrote.{Wrote}
use Rattle.check_listing.specs.Listed.{id_bytes}
use Rattle.check_listing.proofs.put_ids.Given as goal

abbrev pub invariant-loop-id : goal.invariant-loop-id
invariant-loop-id l = Wrote l.initial.out l.out l.w l.at (2 * l.id-index) (take (2 * l.id-index) (id_bytes l.id-items))
