-- The oldest message of an operation in a queue. 01, Moves: "takes the oldest queued message of its operation".
use Rattle.std.specs.Prelude.{List, [], ◌∷◌, ℕ, eqb}
use Rattle.basics.specs.Choice.{pick}
use Rattle.state.specs.Session.{Queued}

-- The oldest message of the O row w, and the queue without it; "the others keep their order".
pub data QueueSplit : Type 0 where
  nothing : QueueSplit
  message : Queued → List Queued → QueueSplit

abbrev pub keeping : Queued → QueueSplit → QueueSplit
keeping m nothing = nothing
keeping m (message x l) = message x (m ∷ l)

unfoldable pub oldest : ℕ → List Queued → QueueSplit
oldest w [] = nothing
oldest w (m ∷ l) = pick (eqb m.operation w) (message m l) (keeping m (oldest w l))
