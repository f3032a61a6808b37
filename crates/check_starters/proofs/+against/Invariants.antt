use Rattle.check_starters.proofs.+against.Given as goal

abbrev pub decreases-against : goal.decreases-against
decreases-against l = l.n
