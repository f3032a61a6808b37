-- Whom a message meets. 01, Moves: "send, with a target session: to the input it meets, queued at a live one, or starting a free
-- 1 to 3, whose first starter branch of that operation receives it."
use Rattle.std.specs.Prelude.{Bool, true, false, ◌&&◌, List, [], ◌∷◌, ℕ, zero, suc, eqb, leb, ltb, length}
use Rattle.basics.specs.Choice.{pick}
use Rattle.network_syntax.specs.Syntax.{Optional, none, some, Service, Network, Operation, Behaviour, Branches, last_branch, branch}
use Rattle.network_syntax.specs.Rows.{Input, input_of, Choice, choice_of}
use Rattle.state.specs.Session.{Session, Slot, free, live, State}
use Rattle.state.specs.Shape.{behaviour_in}

-- How a message gets to a session: not at all (15); its queue is full (16); queued; or it starts the session by the branch k of
-- the starter, a choice of the row c, with that input.
pub data Target : Type 0 where
  no_target queue_full queued : Target
  starts : ℕ → ℕ → Input → Target

-- The branch k, where its input names exactly the O row w.
abbrev pub start_by : ℕ → ℕ → ℕ → Optional Input → Target → Target
start_by w c k none otherwise = otherwise
start_by w c k (some i) otherwise = pick (eqb i.operation.row w) (starts c k i) otherwise

-- The first branch of the starter, from its branch k on, whose input names exactly that O row.
unfoldable pub start_from : ℕ → ℕ → ℕ → Branches → Target
start_from w c k (last_branch r a b) = start_by w c k (input_of a) no_target
start_from w c k (branch r a b m) = start_by w c k (input_of a) (start_from w c (suc k) m)

abbrev pub start_of : ℕ → Optional Choice → Target
start_of w none = no_target
start_of w (some c) = start_from w c.row 0 c.branches

-- A free session is started, if it is one of 1 to 3; a live one queues "up to four messages".
abbrev pub target_of : ℕ → ℕ → Behaviour → Slot → Target
target_of w n B free = pick (eqb n 0) no_target (start_of w (choice_of B))
target_of w n B (live S) = pick (ltb (length S.queue) 4) queued queue_full

abbrev pub target_in : Optional Behaviour → (Behaviour → Target) → Target
target_in none f = no_target
target_in (some B) f = f B

-- How a message of the input operation o gets to the session n of o's service.
abbrev pub target : Network → State → Operation → ℕ → Target
target N G o n = target_in (behaviour_in N o.service n) (λ B. target_of o.row n B (G o.service n))
