use Rattle.check_environments.proofs.+unite_from.Given as goal

abbrev pub decreases-unite_from : goal.decreases-unite_from
decreases-unite_from l = l.n
