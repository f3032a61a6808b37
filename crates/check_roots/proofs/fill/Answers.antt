use Rattle.check_roots.proofs.RootLaws.{filled}
use Prim.Native.Nat.{ℕ}
use lib.ListN.{length-replicate}
use Rattle.check_roots.proofs.fill.Goals as goal

pub returns : goal.returns
returns c = filled _ _ _ _ _ _ _ (length-replicate {A = ℕ} 65536 0) c.represent.ensures (length-replicate {A = ℕ} 8192 0) c.expression_sets.ensures c.behaviour_sets.ensures
