use Rattle.type_images.proofs.Making.{child-laws}
use Rattle.type_images.proofs.put_child.Goals as goal

pub returns-then-not-is_tree : goal.returns-then-not-is_tree
returns-then-not-is_tree c = search child-laws depth 12

pub returns-then-not-is_tree-2 : goal.returns-then-not-is_tree-2
returns-then-not-is_tree-2 c = search child-laws depth 12

pub returns : goal.returns
returns c = search child-laws depth 12
