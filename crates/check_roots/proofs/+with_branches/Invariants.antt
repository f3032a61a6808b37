use Rattle.check_roots.proofs.+with_branches.Given as goal

abbrev pub decreases-with_branches : goal.decreases-with_branches
decreases-with_branches l = l.n
