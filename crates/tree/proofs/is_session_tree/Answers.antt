use Rattle.tree.proofs.Deciding.{session-laws}
use Rattle.tree.proofs.is_session_tree.Goals as goal

pub returns-then-is_tree : goal.returns-then-is_tree
returns-then-is_tree c = search session-laws depth 12

pub returns-else-is_tree : goal.returns-else-is_tree
returns-else-is_tree c = search session-laws depth 12
