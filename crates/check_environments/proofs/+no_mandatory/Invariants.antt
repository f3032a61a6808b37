use Rattle.check_environments.proofs.+no_mandatory.Given as goal

abbrev pub decreases-no_mandatory : goal.decreases-no_mandatory
decreases-no_mandatory l = l.n
