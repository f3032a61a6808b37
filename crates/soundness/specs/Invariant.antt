-- The invariant of property 3: "well typed" and what is needed besides to keep it. A session's tree and what is left of its behaviour are
-- typed; parts that are not taken are not begun; rows have the progress of their kind; every row that waits or was received is reached;
-- queued messages fit, and a reply that goes to a waiting row is of a type that row takes; keys are held once, and messages queued by them.
use Rattle.std.specs.Prelude.{◌≡◌, List, [], ◌∷◌, false, ℕ, ◌≤◌, ◌<◌, T, length}
use Rattle.tree_forest.specs.Path.{Path}
use Rattle.network_syntax.specs.Syntax.{Types, Expression, Optional, none, some, Network, Operation, Behaviour, request_response, solicit_response}
use Rattle.network_syntax.specs.Rows.{at_row}
use Rattle.network_syntax.specs.Keys.{holds_key}
use Rattle.check_subtyping.specs.Subtype.{Subtype}
use Rattle.check_subtyping.specs.Own.{Fits}
use Rattle.check_typing.specs.Environment.{within}
use Rattle.tree.specs.Encode.{WellFormedTree}
use Rattle.tree_forest.specs.Limits.{message_levels_below, message_nodes_below}
use Rattle.state.specs.Session.{Destination, outsider, waiting_row, undone, received, Queued, Session, live, State}
use Rattle.state.specs.Shape.{behaviour_in, operation_of_row, suits_operation, suits, KeysApart}
use Rattle.move_rules.specs.Readiness.{rest}
use Rattle.soundness.specs.GoodTrees.{GoodForest}
use Rattle.network.specs.Shapes.{Outside}
use Rattle.soundness.specs.Parts.{Clean}
use Rattle.soundness.specs.Parts.{AllOpen}
use Rattle.soundness.specs.Well.{Well}
use Rattle.soundness.specs.KeyedQueues.{KeyedQueue}

-- Replies of the operation o may go there: a waiting row's own reply type is above o's.
abbrev pub ReplyFits : Network → Operation → Destination → Type 0
ReplyFits N o (outsider k) = Unit {0}
ReplyFits N o (waiting_row q n r) =
    (B : Behaviour) → behaviour_in N q n ≡ some B → (r2 : ℕ) (o2 : Operation) (e : Expression) (x : Path) → at_row r B ≡ some (solicit_response r2 o2 e x)
    → Subtype o.reply o2.reply

-- The same of a message, which has no destination if it is one-way.
abbrev pub RepliesFit : Network → Operation → Optional Destination → Type 0
RepliesFit N o none = Unit {0}
RepliesFit N o (some d) = ReplyFits N o d

-- The row i of B, a received request-response, may answer there.
abbrev pub AnswersAt : Network → Behaviour → ℕ → Destination → Type 0
AnswersAt N B i to =
    (r : ℕ) (o : Operation) (x c : Path) (d : Behaviour) → at_row i B ≡ some (request_response r o x c d) → ReplyFits N o to

-- A queued message of the service q.
pub record QueuedSound (N : Network) (rows q : ℕ) (m : Queued) : Type 0 where
  pub operation : Operation
  pub there : operation_of_row N.operations m.operation ≡ some operation
  pub suit : T (suits_operation N rows q m.reply_to (some operation))
  pub good : WellFormedTree message_levels_below message_nodes_below m.message
  pub fit : Fits m.message operation.request
  pub destination : RepliesFit N operation m.reply_to

unfoldable pub AllQueued : Network → ℕ → ℕ → List Queued → Type 0
AllQueued N rows q [] = Unit {0}
AllQueued N rows q (m ∷ l) = QueuedSound N rows q m × AllQueued N rows q l

-- A live session n of the service q.
pub record SessionSound (N : Network) (rows q n : ℕ) (S : Session) : Type 0 where
  pub what : Behaviour
  pub runs : behaviour_in N q n ≡ some what
  pub last : Types
  pub limit : T (within last)
  pub clean : Clean S.progress what
  pub suit : T (suits N rows S.progress what)
  pub quiet : (r : ℕ) → Outside r what → S.progress r ≡ undone
  pub opened : AllOpen S.progress what
  pub replies : (i : ℕ) (to : Destination) → S.progress i ≡ received to → AnswersAt N what i to
  pub good : GoodForest S.tree
  pub well : Well q S.tree (rest S.progress what) last
  pub few : length S.queue ≤ 4
  pub queued : AllQueued N rows q S.queue

-- The key x of a live session n of the service q, with the queue l: an int's four bytes, 0 where no key is held.
pub record KeySound (N : Network) (q n x : ℕ) (l : List Queued) : Type 0 where
  pub fits : x < 0x100000000
  pub none : holds_key N q n ≡ false → x ≡ 0
  pub queue : KeyedQueue N q n x l

-- The invariant of a state: every move keeps it, and all that is claimed of a state from fresh follows from it.
pub record Sound (N : Network) (rows : ℕ) (G : State) : Type 0 where
  -- "A session that isn't free is *live*": each such session, and its key.
  pub sessions : (q n : ℕ) (S : Session) → G q n ≡ live S → SessionSound N rows q n S
  pub keys : (q n : ℕ) (S : Session) → G q n ≡ live S → KeySound N q n S.key S.queue
  pub keys_apart : KeysApart N G
