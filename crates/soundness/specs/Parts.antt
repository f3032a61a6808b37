-- Parts of a behaviour: the branch of a choice that was taken, each row once, parts that are not begun, rows that are reached, and rows
-- that are open.
use Rattle.std.specs.Prelude.{◌≡◌, Bool, true, false, ℕ, zero, suc, T}
use Rattle.tree_forest.specs.Path.{Path}
use Rattle.network_syntax.specs.Syntax.{Expression, Operation, Behaviour, nil, one_way, request_response, notification, solicit_response, if_then_else, while_do}
use Rattle.network_syntax.specs.Syntax.{sequence, parallel, assign, choice, waiting, answering, Branches, last_branch, branch}
use Rattle.network_syntax.specs.Rows.{has_row, has_row_in}
use Rattle.state.specs.Session.{Progress, Progresses, Destination, undone, done, waits, received, taken}
use Rattle.move_rules.specs.Readiness.{is_done, first_or}

-- The branch k of a choice's branches, counted from 0, as the sequence of its input and what follows; past the last, the last.
unfoldable pub branch_at : ℕ → Branches → Behaviour
branch_at k (last_branch r a b) = sequence r a b
branch_at k (branch r a b m) = first_or k (sequence r a b) (λ j. branch_at j m)

-- No row of the behaviour, or of the branches, is begun.
abbrev pub Fresh : Progresses → Behaviour → Type 0
Fresh p B = (i : ℕ) → T (has_row i B) → p i ≡ undone

abbrev pub FreshBranches : Progresses → Branches → Type 0
FreshBranches p m = (i : ℕ) → T (has_row_in i m) → p i ≡ undone

abbrev pub not_taken : Progress → Bool
not_taken undone = true
not_taken done = true
not_taken waits = true
not_taken (received to) = true
not_taken (taken k) = false

unfoldable mutual
  -- Parts that are not taken are not begun.
  pub Clean : Progresses → Behaviour → Type 0
  Clean p (nil r) = Unit {0}
  Clean p (one_way r o x) = Unit {0}
  Clean p (request_response r o x c d) = (p r ≡ undone → Fresh p d) × Clean p d
  Clean p (notification r o e) = Unit {0}
  Clean p (solicit_response r o e x) = Unit {0}
  Clean p (if_then_else r e a b) = (p r ≡ undone → Fresh p a) × (p r ≡ undone → Fresh p b) × Clean p a × Clean p b
  Clean p (while_do r e b) = Clean p b
  Clean p (sequence r a b) = Clean p a × Clean p b
  Clean p (parallel r a b) = Clean p a × Clean p b
  Clean p (assign r x e) = Unit {0}
  Clean p (choice r m) = (T (not_taken (p r)) → FreshBranches p m) × CleanBranches p m
  Clean p (waiting r o x) = Unit {0}
  Clean p (answering r o c d) = Unit {0}

  pub CleanBranches : Progresses → Branches → Type 0
  CleanBranches p (last_branch r a b) = Clean p a × Clean p b
  CleanBranches p (branch r a b m) = Clean p a × Clean p b × CleanBranches p m

-- The part X of a behaviour is reached, by a way from the top down. 01, Moves: "A row is *ready* when it is not done and nothing before it in
-- a sequence is undone; both sides of a ready parallel, each input of a ready choice, the taken side or body of an if or while, and the body
-- of a received request-response count likewise." The inputs of a choice with no branch taken are left out, being no assign, if or while, and
-- so is what lies below a received one of them: no list of moves leaves such an input (docs/DECISIONS.md, 43).
pub data Reaches (p : Progresses) (X : Behaviour) : Behaviour → Type 0 where
  at_self : Reaches p X X
  -- "nothing before it in a sequence is undone"
  at_first : {r : ℕ} {a b : Behaviour} → Reaches p X a → Reaches p X (sequence r a b)
  at_second : {r : ℕ} {a b : Behaviour} → T (is_done p a) → Reaches p X b → Reaches p X (sequence r a b)
  -- "both sides of a ready parallel"
  at_left : {r : ℕ} {a b : Behaviour} → Reaches p X a → Reaches p X (parallel r a b)
  at_right : {r : ℕ} {a b : Behaviour} → Reaches p X b → Reaches p X (parallel r a b)
  -- "the taken side or body of an if or while"
  at_then : {r : ℕ} {e : Expression} {a b : Behaviour} → p r ≡ taken zero → Reaches p X a
      → Reaches p X (if_then_else r e a b)
  at_else : {r : ℕ} {e : Expression} {a b : Behaviour} (k : ℕ) → p r ≡ taken (suc k) → Reaches p X b
      → Reaches p X (if_then_else r e a b)
  at_loop : {r : ℕ} {e : Expression} {b : Behaviour} (k : ℕ) → p r ≡ taken k → Reaches p X b
      → Reaches p X (while_do r e b)
  -- "the body of a received request-response"
  at_served : {r : ℕ} {o : Operation} {x c : Path} {d : Behaviour} (to : Destination) → p r ≡ received to → Reaches p X d
      → Reaches p X (request_response r o x c d)
  -- the taken branch of a choice, "as in a sequence"
  at_branch : {r : ℕ} {m : Branches} (k : ℕ) → p r ≡ taken k → Reaches p X (branch_at k m) → Reaches p X (choice r m)

-- Open rows: those that wait or were received.
abbrev pub is_open : Progress → Bool
is_open undone = false
is_open done = false
is_open waits = true
is_open (received to) = true
is_open (taken k) = false

-- A row that can be open.
pub data Opens (i : ℕ) : Behaviour → Type 0 where
  asking : {o : Operation} {e : Expression} {x : Path} → Opens i (solicit_response i o e x)
  serving : {o : Operation} {x c : Path} {d : Behaviour} → Opens i (request_response i o x c d)

pub record Open (p : Progresses) (i : ℕ) (B : Behaviour) : Type 0 where
  pub what : Behaviour
  pub kind : Opens i what
  pub way : Reaches p what B

-- Every open row is reached.
abbrev pub AllOpen : Progresses → Behaviour → Type 0
AllOpen p B = (i : ℕ) → T (has_row i B) → T (is_open (p i)) → Open p i B
