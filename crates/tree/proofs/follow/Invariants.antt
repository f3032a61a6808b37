use mathlib.Core.Path.{◌≡◌}
use lib.ListN.{length}
use Rattle.tree.proofs.Walking.{Reached}
use Rattle.tree.proofs.follow.Given as goal

abbrev pub invariant-loop-id : goal.invariant-loop-id
invariant-loop-id l = (length l.id-items ≡ 4) × Reached l.s l.id-items l.at l.id-index
