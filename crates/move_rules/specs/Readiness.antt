-- Which rows are done, which are reached, and what remains: 01, Moves ("A row is *ready* when ..", "A nil is done, and so is ..")
-- and the last paragraph of Typing ("The rest is what remains of its client or starter ..").
-- In a choice the taken branch is a number k counted from 0.
use Rattle.std.specs.Prelude.{Bool, true, false, ◌&&◌, ℕ, zero, suc, eqb}
use Rattle.network_syntax.specs.Syntax.{Behaviour, nil, one_way, request_response, notification, solicit_response, if_then_else, while_do}
use Rattle.network_syntax.specs.Syntax.{sequence, parallel, assign, choice, waiting, answering, Branches, last_branch, branch}
use Rattle.network_syntax.specs.Rows.{row_of}
use Rattle.state.specs.Session.{Progress, Progresses, undone, done, waits, received, taken}

-- The second where the row is done, else the first.
abbrev pub unless_done : {A : Type 0} → Progress → A → A → A
unless_done undone otherwise when_done = otherwise
unless_done done otherwise when_done = when_done
unless_done waits otherwise when_done = otherwise
unless_done (received to) otherwise when_done = otherwise
unless_done (taken k) otherwise when_done = otherwise

-- The second where the row waits for its reply, else the first.
abbrev pub unless_waits : {A : Type 0} → Progress → A → A → A
unless_waits undone otherwise when_waits = otherwise
unless_waits done otherwise when_waits = otherwise
unless_waits waits otherwise when_waits = when_waits
unless_waits (received to) otherwise when_waits = otherwise
unless_waits (taken k) otherwise when_waits = otherwise

-- The second where the row was received, else the first.
abbrev pub unless_received : {A : Type 0} → Progress → A → A → A
unless_received undone otherwise when_received = otherwise
unless_received done otherwise when_received = otherwise
unless_received waits otherwise when_received = otherwise
unless_received (received to) otherwise when_received = when_received
unless_received (taken k) otherwise when_received = otherwise

-- What the taken part k gives, where a part is taken, else the first.
abbrev pub unless_taken : {A : Type 0} → Progress → A → (ℕ → A) → A
unless_taken undone otherwise when_taken = otherwise
unless_taken done otherwise when_taken = otherwise
unless_taken waits otherwise when_taken = otherwise
unless_taken (received to) otherwise when_taken = otherwise
unless_taken (taken k) otherwise when_taken = when_taken k

-- Part 0, then, or any other, else.
abbrev pub then_or_else : {A : Type 0} → ℕ → A → A → A
then_or_else zero a b = a
then_or_else (suc k) a b = b

-- The first for 0, else what one less gives.
abbrev pub first_or : {A : Type 0} → ℕ → A → (ℕ → A) → A
first_or zero a f = a
first_or (suc k) a f = f k

unfoldable mutual
  -- "A nil is done, and so is a sequence, parallel, if or choice whose chosen parts are." Of the others a row is done when its
  -- progress says so; a while only after its condition was false.
  pub is_done : Progresses → Behaviour → Bool
  is_done p (nil r) = true
  is_done p (one_way r o x) = unless_done (p r) false true
  is_done p (request_response r o x c d) = unless_done (p r) false true
  is_done p (notification r o e) = unless_done (p r) false true
  is_done p (solicit_response r o e x) = unless_done (p r) false true
  is_done p (if_then_else r e a b) = unless_taken (p r) false (λ k. then_or_else k (is_done p a) (is_done p b))
  is_done p (while_do r e b) = unless_done (p r) false true
  is_done p (sequence r a b) = is_done p a && is_done p b
  is_done p (parallel r a b) = is_done p a && is_done p b
  is_done p (assign r x e) = unless_done (p r) false true
  is_done p (choice r m) = unless_taken (p r) false (λ k. branch_done p k m)
  is_done p (waiting r o x) = false
  is_done p (answering r o c d) = false

  -- The branch k, or the last where k is past it: its input and what follows are done.
  pub branch_done : Progresses → ℕ → Branches → Bool
  branch_done p k (last_branch r a b) = is_done p a && is_done p b
  branch_done p k (branch r a b m) = first_or k (is_done p a && is_done p b) (λ j. branch_done p j m)

-- How a row is reached: not at all; as a behaviour; or as an input of a choice in which no branch is taken (the choice's row,
-- the branch's number, the input).
pub data Reached : Type 0 where
  unreached : Reached
  reached : Behaviour → Reached
  offered : ℕ → ℕ → Behaviour → Reached

-- The first where the test holds, else the second.
abbrev pub here : Bool → Behaviour → Reached → Reached
here true b otherwise = reached b
here false b otherwise = otherwise

abbrev pub or_else : Reached → Reached → Reached
or_else unreached other = other
or_else (reached b) other = reached b
or_else (offered c k b) other = offered c k b

abbrev pub only_if : Bool → Reached → Reached
only_if true l = l
only_if false l = unreached

abbrev pub offered_if : Bool → ℕ → ℕ → Behaviour → Reached → Reached
offered_if true c k b otherwise = offered c k b
offered_if false c k b otherwise = otherwise

-- The input with the row i among the branches of the choice c, of which k stand before.
unfoldable pub offer : ℕ → ℕ → ℕ → Branches → Reached
offer c k i (last_branch r a b) = offered_if (eqb i (row_of a)) c k a unreached
offer c k i (branch r a b m) = offered_if (eqb i (row_of a)) c k a (offer c (suc k) i m)

unfoldable mutual
  -- The row i from the top down: through sequences whose first part is done, both sides of a parallel, the taken part of an if,
  -- while or choice, "each input of a ready choice", and the body of a received request-response, also where that is such an input.
  pub reach : Progresses → ℕ → Behaviour → Reached
  reach p i (nil r) = here (eqb i r) (nil r) unreached
  reach p i (one_way r o x) = here (eqb i r) (one_way r o x) unreached
  reach p i (request_response r o x c d) =
      here (eqb i r) (request_response r o x c d) (unless_received (p r) unreached (reach p i d))
  reach p i (notification r o e) = here (eqb i r) (notification r o e) unreached
  reach p i (solicit_response r o e x) = here (eqb i r) (solicit_response r o e x) unreached
  reach p i (if_then_else r e a b) =
      here (eqb i r) (if_then_else r e a b) (unless_taken (p r) unreached (λ k. then_or_else k (reach p i a) (reach p i b)))
  reach p i (while_do r e b) = here (eqb i r) (while_do r e b) (unless_taken (p r) unreached (λ k. reach p i b))
  reach p i (sequence r a b) =
      here (eqb i r) (sequence r a b) (or_else (reach p i a) (only_if (is_done p a) (reach p i b)))
  reach p i (parallel r a b) = here (eqb i r) (parallel r a b) (or_else (reach p i a) (reach p i b))
  reach p i (assign r x e) = here (eqb i r) (assign r x e) unreached
  reach p i (choice r m) =
      here (eqb i r) (choice r m) (unless_taken (p r) (or_else (offer r 0 i m) (served p i m)) (λ k. reach_branch p k i m))
  reach p i (waiting r o x) = unreached
  reach p i (answering r o c d) = unreached

  -- In the taken branch k, "as in a sequence".
  pub reach_branch : Progresses → ℕ → ℕ → Branches → Reached
  reach_branch p k i (last_branch r a b) = or_else (reach p i a) (only_if (is_done p a) (reach p i b))
  reach_branch p k i (branch r a b m) =
      first_or k (or_else (reach p i a) (only_if (is_done p a) (reach p i b))) (λ j. reach_branch p j i m)

  -- "the body of a received request-response count likewise": the row i below a received input of a choice in which no branch is taken. (The
  -- inputs themselves are offered first.) No list of moves from fresh leaves such an input (docs/DECISIONS.md, 43).
  pub served : Progresses → ℕ → Branches → Reached
  served p i (last_branch r a b) = unless_received (p (row_of a)) unreached (reach p i a)
  served p i (branch r a b m) = or_else (unless_received (p (row_of a)) unreached (reach p i a)) (served p i m)

unfoldable mutual
  -- 01's *rest*: "a done row is nil; a waiting one places its reply type; a received one is its body's rest and reply; an if or
  -- choice with a part taken is that part's rest; a while with its body taken is the body's rest, then the while."
  pub rest : Progresses → Behaviour → Behaviour
  rest p (nil r) = nil r
  rest p (one_way r o x) = unless_done (p r) (one_way r o x) (nil r)
  rest p (request_response r o x c d) =
      unless_done (p r) (unless_received (p r) (request_response r o x c d) (answering r o c (rest p d))) (nil r)
  rest p (notification r o e) = unless_done (p r) (notification r o e) (nil r)
  rest p (solicit_response r o e x) =
      unless_done (p r) (unless_waits (p r) (solicit_response r o e x) (waiting r o x)) (nil r)
  rest p (if_then_else r e a b) = unless_taken (p r) (if_then_else r e a b) (λ k. then_or_else k (rest p a) (rest p b))
  rest p (while_do r e b) =
      unless_done (p r) (unless_taken (p r) (while_do r e b) (λ k. sequence r (rest p b) (while_do r e b))) (nil r)
  rest p (sequence r a b) = sequence r (rest p a) (rest p b)
  rest p (parallel r a b) = parallel r (rest p a) (rest p b)
  rest p (assign r x e) = unless_done (p r) (assign r x e) (nil r)
  rest p (choice r m) = unless_taken (p r) (choice r m) (λ k. branch_rest p k m)
  rest p (waiting r o x) = waiting r o x
  rest p (answering r o c d) = answering r o c d

  -- What remains of the branch k, or of the last where k is past it: its input, then what follows.
  pub branch_rest : Progresses → ℕ → Branches → Behaviour
  branch_rest p k (last_branch r a b) = sequence r (rest p a) (rest p b)
  branch_rest p k (branch r a b m) = first_or k (sequence r (rest p a) (rest p b)) (λ j. branch_rest p j m)
