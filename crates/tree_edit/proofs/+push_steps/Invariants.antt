use Prim.Native.Nat.{◌-◌}
use Rattle.tree_edit.proofs.+push_steps.Given as goal

abbrev pub decreases-push_steps : goal.decreases-push_steps
decreases-push_steps l = 4 - l.k
