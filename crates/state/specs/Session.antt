-- Sessions and states. 01, Moves: "Per service and session a state is free, or holds a tree, a queue of up to four messages,
-- the progress of rows and where replies go".
use Rattle.std.specs.Prelude.{List, [], ℕ, eqb}
use Rattle.tree_forest.specs.Forest.{Forest, end, Tree}
use Rattle.scalar.specs.Value.{Value}
use Rattle.basics.specs.Choice.{pick}
use Rattle.network_syntax.specs.Syntax.{Optional, none, some, Behaviour}
use Rattle.network_syntax.specs.Rows.{has_row}

-- Where a reply goes: to an outsider, under the reply number it gave; or to a waiting row, by its service, session and B row.
pub data Destination : Type 0 where
  outsider : ℕ → Destination
  waiting_row : ℕ → ℕ → ℕ → Destination

-- The progress of a row. A request-response that was received holds where its reply goes. `taken` is a chosen part: of an if
-- 0 for then and 1 for else, of a while 0 for its body, of a choice the branch, counted from 0.
pub data Progress : Type 0 where
  undone done waits : Progress
  received : Destination → Progress
  taken : ℕ → Progress

-- An input's progress once received: a one-way message has no destination, and its input is done; a request-response holds where its
-- reply goes.
abbrev pub received_by : Optional Destination → Progress
received_by none = done
received_by (some d) = received d

-- The progress of every row.
abbrev pub Progresses : Type 0
Progresses = ℕ → Progress

-- The same with the row r at s.
abbrev pub advance : Progresses → ℕ → Progress → Progresses
advance p r s = λ i. pick (eqb i r) s (p i)

-- The same with every row of the behaviour undone.
abbrev pub reopen : Progresses → Behaviour → Progresses
reopen p b = λ i. pick (has_row i b) undone (p i)

-- A queued message: the O row of its operation, the message, and where its reply goes (none exactly if its operation is one-way).
pub record Queued : Type 0 where
  pub operation : ℕ
  pub message : Tree Value
  pub reply_to : Optional Destination

-- A live session: 01's "A session that isn't free is *live*". The tree is written without its void root; the queue has the
-- oldest message first. The key is an int as a u32 (02: "A started session keeps the key of its first message"), 0 in a session that holds none.
pub record Session : Type 0 where
  pub tree : Forest Value
  pub queue : List Queued
  pub progress : Progresses
  pub key : ℕ

pub data Slot : Type 0 where
  free : Slot
  live : Session → Slot

-- A slot for each service and session.
abbrev pub State : Type 0
State = ℕ → ℕ → Slot

-- The state with the slot of the service q and the session n changed.
abbrev pub set_slot : State → ℕ → ℕ → Slot → State
set_slot G q n x = λ i j. pick (eqb i q) (pick (eqb j n) x (G i j)) (G i j)

-- A session by its parts. Sessions are made by this and changed by the next four, so that a new part is added to these.
abbrev pub session_of : Forest Value → List Queued → Progresses → ℕ → Session
session_of F l p x = record { tree = F; queue = l; progress = p; key = x }

-- The session with another tree; with another queue; with another progress; with another key.
abbrev pub with_tree : Session → Forest Value → Session
with_tree S F = session_of F S.queue S.progress S.key

abbrev pub with_queue : Session → List Queued → Session
with_queue S l = session_of S.tree l S.progress S.key

abbrev pub with_progress : Session → Progresses → Session
with_progress S p = session_of S.tree S.queue p S.key

abbrev pub with_key : Session → ℕ → Session
with_key S x = session_of S.tree S.queue S.progress x

-- A session in which nothing was done: an empty tree and queue, every row undone, no key.
abbrev pub new_session : Session
new_session = session_of end [] (λ i. undone) 0
