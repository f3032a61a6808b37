-- What `reach` answers, as move_rules' `Reached`, for every file that none of 2 to 5 refuses.
use Rattle.std.specs.Prelude.{◌≡◌, List, ℕ, zero, suc, ◌+◌, ◌<◌, ◌≤◌}
use Rattle.network.specs.Form.{WellFormed}
use Rattle.network.specs.Layout.{behaviour_count, behaviour_at}
use Rattle.network.specs.Decode.{branches_from, behaviour_of}
use Rattle.state.specs.Session.{Progresses}
use Rattle.move_rules.specs.Readiness.{unless_received, unreached, reached, offered, or_else, offer, reach, served}
use Rattle.move_rules.specs.Readiness as moves
use Rattle.network_row_parts.specs.Behaviours.{Sub, BranchSubs}
use Rattle.move_readiness.specs.declared.Reached.{Reached}

-- Rows as the behaviours that they are.
abbrev pub reached_as : List ℕ → Reached → moves.Reached
reached_as file Reached.Unreached = unreached
reached_as file (Reached.Reached r) = reached (behaviour_of file r)
reached_as file (Reached.Offered c k r) = offered c k (behaviour_of file r)

-- In no branches nothing is reached.
abbrev pub in_branches : ℕ → moves.Reached → moves.Reached
in_branches zero x = unreached
in_branches (suc n) x = x

-- The input i among the n branches whose rows stand from `at` on, of the choice c; k stand before.
pub record Offers (file : List ℕ) (c k i at n : ℕ) (x : Reached) : Type 0 where
  pub tells : (j : ℕ) → at ≡ behaviour_at file j → reached_as file x ≡ in_branches n (offer c k i (branches_from file (behaviour_of file) j n))

-- The row i from the input a down, if a is received, with so many rows left.
pub record ReachesReceived (file : List ℕ) (p : Progresses) (i a left : ℕ) (x : Reached) : Type 0 where
  pub tells : WellFormed file → Sub file left a → reached_as file x ≡ unless_received (p a) unreached (reach p i (behaviour_of file a))

-- The same for the inputs of the n branches whose rows stand from `at` on.
pub record ReachesServed (file : List ℕ) (p : Progresses) (i at n left : ℕ) (x : Reached) : Type 0 where
  pub tells : WellFormed file → (j : ℕ) → at ≡ behaviour_at file j → ((m : ℕ) → j ≤ m → m < j + n → BranchSubs file left m)
      → reached_as file x ≡ in_branches n (served p i (branches_from file (behaviour_of file) j n))

-- The row i from the inputs down of the n branches from row `first` on, of the choice c; "count b of 1 to 8".
pub record ReachesInputs (file : List ℕ) (p : Progresses) (i c first n left : ℕ) (x : Reached) : Type 0 where
  pub tells : WellFormed file → 1 ≤ n → n ≤ 8 → ((m : ℕ) → first ≤ m → m < first + n → BranchSubs file left m)
      → reached_as file x ≡ or_else (offer c 0 i (branches_from file (behaviour_of file) first n)) (served p i (branches_from file (behaviour_of file) first n))

-- The row i from row r down, with so many rows left.
pub record ReachesRow (file : List ℕ) (p : Progresses) (i r left : ℕ) (x : Reached) : Type 0 where
  pub tells : WellFormed file → Sub file left r → reached_as file x ≡ reach p i (behaviour_of file r)

pub record ReachTells (file : List ℕ) (p : Progresses) (i r : ℕ) (x : Reached) : Type 0 where
  pub tells : WellFormed file → r < behaviour_count file → reached_as file x ≡ reach p i (behaviour_of file r)
