-- Which rows a behaviour has, by B rows.
use Rattle.std.specs.Prelude.{Bool, false, ◌||◌, List, ℕ, eqb}
use Rattle.network_syntax.specs.Rows.{has_row, has_row_in}
use Rattle.network.specs.Layout.{behaviour_at}
use Rattle.network.specs.Rows.{field_a, field_b}
use Rattle.network.specs.Decode.{branches_from, behaviour_to}
use Rattle.network_row_parts.specs.declared.Subs.{Subs}

-- The row r itself; the rows of B row r with d rows left, and of n branches from row r on.
unfoldable pub itself_row : ℕ → ℕ → Bool
itself_row r i = eqb i r

unfoldable pub rows_to : List ℕ → ℕ → ℕ → ℕ → Bool
rows_to s d r i = has_row i (behaviour_to s d r)

unfoldable pub branch_rows : List ℕ → ℕ → ℕ → ℕ → ℕ → Bool
branch_rows s d r n i = has_row_in i (branches_from s (behaviour_to s d) r n)

-- Those of the branch at row r: its own, its input's and what follows.
abbrev pub one_branch_rows : List ℕ → ℕ → ℕ → ℕ → Bool
one_branch_rows s d r i = itself_row r i || (rows_to s d (field_a s (behaviour_at s r)) i || rows_to s d (field_b s (behaviour_at s r)) i)

-- Those of a row's sub-behaviours.
unfoldable pub sub_rows : List ℕ → ℕ → Subs → ℕ → Bool
sub_rows s d Subs.Nothing i = false
sub_rows s d (Subs.One a) i = rows_to s d a i
sub_rows s d (Subs.Two a b) i = rows_to s d a i || rows_to s d b i
sub_rows s d (Subs.Run first n) i = branch_rows s d first n i
