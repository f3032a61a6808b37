use Rattle.tree_edit.proofs.Copying.{append-wrote}
use Rattle.tree_edit.proofs.append.Goals as goal

pub returns : goal.returns
returns c = append-wrote _ _ _ _ _ _ c.requires.0 c.requires.1 c.copy_from_slice.ensures.after
