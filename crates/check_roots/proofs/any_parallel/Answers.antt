use Rattle.check_roots.proofs.RootLaws.{searched-more, found-one}
use Rattle.check_roots.proofs.any_parallel.Goals as goal

pub loop-r-preserved : goal.loop-r-preserved
loop-r-preserved c = search (searched-more, c.behaviour_at.ensures.0) depth 12

pub returns-then-byte_at-eq8 : goal.returns-then-byte_at-eq8
returns-then-byte_at-eq8 c = search (found-one, c.behaviour_at.ensures.0) depth 12
