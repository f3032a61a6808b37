use Rattle.check_network.proofs.+services.Given as goal

abbrev pub decreases-services : goal.decreases-services
decreases-services l = l.n
