-- Marks on the rows of a behaviour: 1 for each row that is one of them. 01: "Each row is used exactly once", "At most 256
-- rows in P, T, E, B".
use Rattle.std.specs.Prelude.{◌≡◌, List, Bool, true, false, not, ℕ, ◌<◌, get_or, length, eqb}
use Rattle.network.specs.Decode.{behaviour_of}
use Rattle.network_row_parts.specs.RowSets.{branch_rows}
use Rattle.basics.specs.Choice.{pick}
use Rattle.network_syntax.specs.Rows.{has_row}

-- Is the row i marked?
unfoldable pub marked : List ℕ → ℕ → Bool
marked marks i = not (eqb (get_or marks i 0) 0)

abbrev pub mark_for : Bool → ℕ
mark_for true = 1
mark_for false = 0

-- The rows of which f holds are marked besides.
pub record Adds (f : ℕ → Bool) (before after : List ℕ) : Type 0 where
  pub keeps : length before ≡ 256 → length after ≡ 256
  pub adds : length before ≡ 256 → (i : ℕ) → i < 256 → get_or after i 0 ≡ pick (f i) 1 (get_or before i 0)

-- The rows of the n branches from row r on are marked besides.
pub record AddsBranches (s : List ℕ) (r n d : ℕ) (before after : List ℕ) : Type 0 where
  pub adds : Adds (branch_rows s d r n) before after

-- The marked rows are those of the behaviour of B row r.
pub record RowsOf (s : List ℕ) (r : ℕ) (marks : List ℕ) : Type 0 where
  pub all : length marks ≡ 256
  pub rows : (i : ℕ) → i < 256 → get_or marks i 0 ≡ mark_for (has_row i (behaviour_of s r))
