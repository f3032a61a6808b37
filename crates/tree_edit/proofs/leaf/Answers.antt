use mathlib.Core.Path.{refl}
use Rattle.tree_edit.proofs.Copying.{leaf-wrote}
use Rattle.tree_edit.proofs.leaf.Goals as goal

pub returns : goal.returns
returns c = leaf-wrote c.args.basic c.args.v.now c.append-a.ensures c.append.ensures refl
