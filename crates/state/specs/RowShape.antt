-- The progress of a behaviour's rows, row by row: what code that goes over rows tests (RowLaws: `rows-decide`).
use Rattle.std.specs.Prelude.{◌≡◌, Bool, true, ◌&&◌, ◌⊎◌, ℕ, zero, suc, ◌<◌}
use Rattle.network_syntax.specs.Syntax.{Optional, none, some, Network, Behaviour, nil, one_way, request_response}
use Rattle.network_syntax.specs.Syntax.{notification, solicit_response, if_then_else, while_do, sequence, parallel}
use Rattle.network_syntax.specs.Syntax.{assign, choice, waiting, answering, Branches, last_branch, branch}
use Rattle.network_syntax.specs.Rows.{row_of, at_row, Choice, choice_of}
use Rattle.state.specs.Session.{Progress, Progresses}
use Rattle.state.specs.Shape.{is_undone, undone_or_done, undone_done_or_waits, undone_done_or_received, undone_or_taken, undone_done_or_body, branches}

-- The progress x is of the kind of the behaviour's own row.
unfoldable pub suits_row : Network → ℕ → Progress → Behaviour → Bool
suits_row N rows x (nil r) = is_undone x
suits_row N rows x (one_way r o y) = undone_or_done x
suits_row N rows x (request_response r o y c d) = undone_done_or_received N rows x
suits_row N rows x (notification r o e) = undone_or_done x
suits_row N rows x (solicit_response r o e y) = undone_done_or_waits x
suits_row N rows x (if_then_else r e a b) = undone_or_taken 2 x
suits_row N rows x (while_do r e b) = undone_done_or_body x
suits_row N rows x (sequence r a b) = is_undone x
suits_row N rows x (parallel r a b) = is_undone x
suits_row N rows x (assign r y e) = undone_or_done x
suits_row N rows x (choice r m) = undone_or_taken (branches m) x
suits_row N rows x (waiting r o y) = is_undone x
suits_row N rows x (answering r o c d) = is_undone x

unfoldable mutual
  -- b is the behaviour or a part of it.
  pub PartOf : Behaviour → Behaviour → Type 0
  PartOf b (nil r) = b ≡ nil r
  PartOf b (one_way r o y) = b ≡ one_way r o y
  PartOf b (request_response r o y c d) = (b ≡ request_response r o y c d) ⊎ PartOf b d
  PartOf b (notification r o e) = b ≡ notification r o e
  PartOf b (solicit_response r o e y) = b ≡ solicit_response r o e y
  PartOf b (if_then_else r e a z) = (b ≡ if_then_else r e a z) ⊎ (PartOf b a ⊎ PartOf b z)
  PartOf b (while_do r e z) = (b ≡ while_do r e z) ⊎ PartOf b z
  PartOf b (sequence r a z) = (b ≡ sequence r a z) ⊎ (PartOf b a ⊎ PartOf b z)
  PartOf b (parallel r a z) = (b ≡ parallel r a z) ⊎ (PartOf b a ⊎ PartOf b z)
  PartOf b (assign r y e) = b ≡ assign r y e
  PartOf b (choice r m) = (b ≡ choice r m) ⊎ PartOfBranches b m
  PartOf b (waiting r o y) = b ≡ waiting r o y
  PartOf b (answering r o c d) = (b ≡ answering r o c d) ⊎ PartOf b d

  pub PartOfBranches : Behaviour → Branches → Type 0
  PartOfBranches b (last_branch r a z) = PartOf b a ⊎ PartOf b z
  PartOfBranches b (branch r a z m) = PartOf b a ⊎ (PartOf b z ⊎ PartOfBranches b m)

-- The row i is a branch's own.
unfoldable pub BranchRow : ℕ → Branches → Type 0
BranchRow i (last_branch r a z) = i ≡ r
BranchRow i (branch r a z m) = (i ≡ r) ⊎ BranchRow i m

abbrev pub BranchRowIn : ℕ → Optional Choice → Type 0
BranchRowIn i none = ⊥
BranchRowIn i (some c) = BranchRow i c.branches

-- The row i is the own row of a branch of b, a choice.
abbrev pub BranchRowOf : ℕ → Behaviour → Type 0
BranchRowOf i b = BranchRowIn i (choice_of b)

-- The row i is the own row of a branch of a part of B.
abbrev pub InBranch : ℕ → Behaviour → Type 0
InBranch i B = (b : Behaviour) × PartOf b B × BranchRowOf i b

-- The progress of a part's own row is of its kind, and that of its branches' own rows is none.
pub record PartSuits (N : Network) (rows : ℕ) (p : Progresses) (b : Behaviour) : Type 0 where
  pub own : suits_row N rows (p (row_of b)) b ≡ true
  pub branch_rows : (i : ℕ) → BranchRowOf i b → is_undone (p i) ≡ true

-- The parts of a behaviour have rows of their own, and so have branches, each below 256. 01: "Each row is used exactly once"; "At most 256
-- rows in P, T, E, B".
pub record RowsApart (B : Behaviour) : Type 0 where
  pub apart : (b c : Behaviour) → PartOf b B → PartOf c B → row_of b ≡ row_of c → b ≡ c
  pub small : (b : Behaviour) → PartOf b B → row_of b < 256
  pub branches_apart : (b c : Behaviour) → PartOf b B → PartOf c B → BranchRowOf (row_of b) c → ⊥
  pub branches_small : (b : Behaviour) → PartOf b B → (i : ℕ) → BranchRowOf i b → i < 256

-- A row of a part has a progress of its kind, any other row none.
abbrev pub suits_at : Network → ℕ → Progress → Optional Behaviour → Bool
suits_at N rows x none = is_undone x
suits_at N rows x (some b) = suits_row N rows x b

-- The rows n - 1 down to 0.
unfoldable pub suits_rows : Network → ℕ → Progresses → Behaviour → ℕ → Bool
suits_rows N rows p B zero = true
suits_rows N rows p B (suc n) = suits_at N rows (p n) (at_row n B) && suits_rows N rows p B n
