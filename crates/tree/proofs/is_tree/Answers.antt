use Rattle.tree.proofs.Deciding.{tree_laws}
use Rattle.tree.proofs.is_tree.Goals as goal

pub returns-in_default : goal.returns-in_default
returns-in_default c = search tree_laws depth 12

pub returns-then-root-ne0 : goal.returns-then-root-ne0
returns-then-root-ne0 c = search tree_laws depth 12

pub returns-in_default-kids : goal.returns-in_default-kids
returns-in_default-kids c = search tree_laws depth 12

pub returns : goal.returns
returns c = search tree_laws depth 12
