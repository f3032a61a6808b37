use Rattle.check_roots.proofs.RootLaws.{behaviours-more}
use Rattle.check_roots.proofs.behaviour_sets.Goals as goal

pub loop-r-preserved : goal.loop-r-preserved
loop-r-preserved c = search (behaviours-more) depth 12
