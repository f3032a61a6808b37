use Rattle.move_local.proofs.ValueLaws.{leaf-length, root-set}
use borrow.Author.Rules.{rules}
use Rattle.move_local.proofs.set_root.Goals as goal

pub slice_bounds-assign-end : goal.slice_bounds-assign-end
slice_bounds-assign-end c = leaf-length c.write_leaf-n.ensures

pub returns : goal.returns
returns c = search (root-set, rules) depth 12
