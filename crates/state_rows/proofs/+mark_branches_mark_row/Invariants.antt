use Prim.Native.Nat.{◌+◌, ◌*◌}
use Rattle.state_rows.proofs.+mark_branches_mark_row.Given as goal

abbrev pub decreases-mark_branches : goal.decreases-mark_branches
decreases-mark_branches l = 65537 * l.left + l.n + 1

abbrev pub decreases-mark_row : goal.decreases-mark_row
decreases-mark_row l = 65537 * l.left
