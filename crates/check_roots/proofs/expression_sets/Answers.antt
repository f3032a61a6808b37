use Rattle.check_roots.proofs.RootLaws.{expressions-none, expressions-more, expressions-all}
use Rattle.check_roots.proofs.expression_sets.Goals as goal

pub loop-r-init : goal.loop-r-init
loop-r-init c = expressions-none _ _ _ _

pub loop-r-preserved : goal.loop-r-preserved
loop-r-preserved c = search (expressions-more) depth 12

pub returns : goal.returns
returns c = search (expressions-all) depth 12
