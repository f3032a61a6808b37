use Rattle.check_starters.proofs.+each.Given as goal

abbrev pub decreases-each : goal.decreases-each
decreases-each l = l.n
