use Rattle.check_environments.proofs.+one_from.Given as goal

abbrev pub decreases-one_from : goal.decreases-one_from
decreases-one_from l = l.n
