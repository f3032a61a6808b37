use Rattle.check_starters.proofs.+one_each.Given as goal

abbrev pub decreases-one_each : goal.decreases-one_each
decreases-one_each l = l.n
