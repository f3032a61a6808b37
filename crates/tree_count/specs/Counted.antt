-- How large a tree in bytes is: the nodes and the levels below the root of the tree that stands at the start of a list of bytes. 01, 18:
-- "48 nodes or 6 levels", counted below the root as those of an environment "below its empty root"; a message keeps to these limits too.
use Rattle.std.specs.Prelude.{◌≡◌, List, ℕ}
use Rattle.tree_forest.specs.Forest.{Tree, nodes, levels}
use Rattle.scalar.specs.Value.{Value}
use Rattle.tree.specs.Encode.{children}
use Rattle.tree.specs.Standing.{Root}

-- No tree of at most 6 levels and 48 nodes below its root stands at the start of s.
abbrev pub Treeless : List ℕ → Type 0
Treeless s = (i : ℕ) (t : Tree Value) → Root s 0 i t → ⊥

-- r is the number of nodes below the root of the tree at the start of s, whatever the root's id; 0 where none stands there.
pub record NodesBelow (s : List ℕ) (r : ℕ) : Type 0 where
  pub tells : (i : ℕ) (t : Tree Value) → Root s 0 i t → r ≡ nodes (children t)
  pub none : Treeless s → r ≡ 0

-- r is the number of levels below the root of the tree at the start of s, whatever the root's id; 0 where none stands there.
pub record LevelsBelow (s : List ℕ) (r : ℕ) : Type 0 where
  pub tells : (i : ℕ) (t : Tree Value) → Root s 0 i t → r ≡ levels (children t)
  pub none : Treeless s → r ≡ 0
