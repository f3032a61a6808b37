use Rattle.check_starters.proofs.+unite_all.Given as goal

abbrev pub decreases-unite_all : goal.decreases-unite_all
decreases-unite_all l = l.n
