use Rattle.tree_edit.proofs.Copying.{store-wrote}
use Rattle.tree_edit.proofs.store.Goals as goal

pub returns : goal.returns
returns c = store-wrote _ _ _ _ _ _ _ c.requires.0 c.requires.1 c.requires.2 c.copy_from_slice.ensures.after (c.fill.ensures.after (λ y e. e))
