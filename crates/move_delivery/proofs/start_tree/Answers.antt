use Rattle.move_delivery.proofs.Delivering.{start-tree-is}
use mathlib.Core.Path.{refl}
use Rattle.state.specs.Places.{slot_size}
use Rattle.move_delivery.proofs.start_tree.Goals as goal

pub returns : goal.returns
returns c = start-tree-is {n = slot_size} refl refl c.begin.ensures c.replace_at.ensures
