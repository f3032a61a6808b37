use Rattle.move_evaluation.proofs.WritingLaws.{tree_laws}
use Rattle.move_evaluation.proofs.write_tree.Goals as goal

pub returns-then-s-end : goal.returns-then-s-end
returns-then-s-end c = search tree_laws depth 12

pub returns-then-end-at : goal.returns-then-end-at
returns-then-end-at c = search tree_laws depth 12

pub returns-then-n-lt2 : goal.returns-then-n-lt2
returns-then-n-lt2 c = search tree_laws depth 12

pub returns-then-out-n : goal.returns-then-out-n
returns-then-out-n c = search tree_laws depth 12

pub returns : goal.returns
returns c = search tree_laws depth 12
