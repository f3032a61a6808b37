-- A part of a file's behaviour as a row of the file.
use Rattle.std.specs.Prelude.{◌≡◌, List, ℕ, ◌<◌}
use Rattle.network_syntax.specs.Syntax.{Behaviour}
use Rattle.network_syntax.specs.Rows.{row_of}
use Rattle.network.specs.declared.BehaviourKind.{BehaviourKind}
use Rattle.network.specs.Layout.{behaviour_count}
use Rattle.network.specs.Rows.{kind_at}
use Rattle.network.specs.Decode.{behaviour_of}
use Rattle.state.specs.RowShape.{BranchRowOf}

-- B: "11 branch".
abbrev pub IsBranchRow : List ℕ → ℕ → Type 0
IsBranchRow s i = (i < behaviour_count s) × (kind_at s i ≡ BehaviourKind.Branch)

-- The part b is the behaviour of its own row, and its branches' rows are branches.
pub record OfItsRow (s : List ℕ) (b : Behaviour) : Type 0 where
  pub exists : row_of b < behaviour_count s
  pub is : b ≡ behaviour_of s (row_of b)
  pub branch_rows : (i : ℕ) → BranchRowOf i b → IsBranchRow s i
