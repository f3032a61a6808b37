use Rattle.check_listing.proofs.Records.{NodesAt}
use Rattle.check_listing.proofs.put_environment.Given as goal

abbrev pub invariant-loop-i : goal.invariant-loop-i
invariant-loop-i l = NodesAt l.e l.q l.role l.i l.n l.initial.out l.out l.w l.at
