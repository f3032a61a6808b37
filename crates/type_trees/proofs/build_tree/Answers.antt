use mathlib.Core.Path.{refl}
use mathlib.Core.Logic.{inr}
use Rattle.type_trees.proofs.Building.{tree-built}
use Rattle.type_trees.proofs.build_tree.Goals as goal

pub build_side-requires : goal.build_side-requires
build_side-requires c = (c.requires.0, c.requires.1, inr refl, c.requires.2)

pub returns : goal.returns
returns c = tree-built c.args.text.now c.args.at c.args.table.now c.args.n c.args.names.now c.args.m c.args.images.now _ c.build_side.ensures
