use Prim.Native.Nat.{◌+◌, ◌*◌}
use Rattle.move_readiness.proofs.+reach_inputs_reach_received_reach_row_reach_served.Given as goal

abbrev pub decreases-reach_inputs : goal.decreases-reach_inputs
decreases-reach_inputs l = 1024 * l.left + 600

abbrev pub decreases-reach_received : goal.decreases-reach_received
decreases-reach_received l = 1024 * l.left + 1

abbrev pub decreases-reach_row : goal.decreases-reach_row
decreases-reach_row l = 1024 * l.left

abbrev pub decreases-reach_served : goal.decreases-reach_served
decreases-reach_served l = 1024 * l.left + l.n + 2
