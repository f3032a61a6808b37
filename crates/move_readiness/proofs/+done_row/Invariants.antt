use Rattle.move_readiness.proofs.+done_row.Given as goal

abbrev pub decreases-done_row : goal.decreases-done_row
decreases-done_row l = l.left
