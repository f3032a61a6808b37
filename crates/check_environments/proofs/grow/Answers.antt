use Rattle.check_environments.proofs.Growing.{grow-laws}
use Rattle.check_environments.proofs.grow.Goals.{then-e-gt341-via-then-e-gt341, then-e-gt341-via-else-e-gt341+then-m-gt341, then-not-is_tree-via-then-not-is_tree, then-not-is_tree-via-else-not-is_tree+then-not-is_tree-2}
use Rattle.check_environments.proofs.grow.Goals as goal

pub returns-then-e-gt341 : goal.returns-then-e-gt341
returns-then-e-gt341 c =
    elim c.then-e-gt341.branch [
      | then-e-gt341-via-then-e-gt341 w ↦ search grow-laws depth 12
      | then-e-gt341-via-else-e-gt341+then-m-gt341 w ↦ search grow-laws depth 12
    ]

pub returns-then-not-is_tree : goal.returns-then-not-is_tree
returns-then-not-is_tree c =
    elim c.then-not-is_tree.branch [
      | then-not-is_tree-via-then-not-is_tree w ↦ search grow-laws depth 12
      | then-not-is_tree-via-else-not-is_tree+then-not-is_tree-2 w ↦ search grow-laws depth 12
    ]

pub returns : goal.returns
returns c = search grow-laws depth 12
