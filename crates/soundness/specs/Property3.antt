-- Property 3, type soundness over every list of moves. 01, Moves: "*From fresh* is a state after a list as in property 3; the list may be
-- empty, and each move in it has any numbers, outside bytes and out buffer. Property 3 is a single claim about the list, not one per move:
-- after it live sessions are well typed, no next move, on the same file and the state so left, gives 18, no send or reply gives 19, one
-- to an outsider included, and a ready assign, if or while gives 0, or 1 for its out buffer." 02: "From fresh, a ready local row of an
-- accepted network therefore moves, has such a result or gives 1 for its out buffer"; "State trees and queues hold only well-formed strings
-- from a fresh state on"; "From fresh, no two live sessions of a service hold one key".
use Rattle.std.specs.Prelude.{◌≡◌, Bool, true, false, ◌&&◌, ◌||◌, List, [], ◌∷◌, ℕ, ◌<◌, T, leb, length, take}
use Rattle.tree_forest.specs.Forest.{Rising}
use Rattle.basics.specs.Choice.{pick}
use Rattle.network_syntax.specs.Syntax.{Types, Optional, none, some, Network, Operation, Expression, Behaviour}
use Rattle.network_syntax.specs.Rows.{row_of, Output, output_of, Local, assigns, decides, repeats, local_of}
use Rattle.check_subtyping.specs.Subtype.{Subtypes}
use Rattle.check_subtyping.specs.Own.{own_types, Fits}
use Rattle.check_typing.specs.Environment.{within}
use Rattle.check_typing.specs.Rules.{Derives}
use Rattle.tree.specs.Encode.{Octets}
use Rattle.refusal.specs.Refusal.{outcome_number}
use Rattle.check_typing.specs.Result.{passed}
use Rattle.check_typing.specs.NetworkRules.{Environments}
use Rattle.check_files.specs.FileChecker.{check_file}
use Rattle.network.specs.Layout.{behaviour_count}
use Rattle.network.specs.Decode.{network_of}
use Rattle.state.specs.Places.{out_room}
use Rattle.state.specs.Session.{Progress, Progresses, undone, done, waits, received, taken, Queued, Session, live, State}
use Rattle.state.specs.Bytes.{state_bytes}
use Rattle.state.specs.Shape.{is_undone, behaviour_in, operation_of_row, KeysApart, Stands}
use Rattle.move_rules.specs.Readiness.{is_done, rest}
use Rattle.move_rules.specs.Evaluation.{Evaluation, missing, wrong_kind, beyond, given, evaluate}
use Rattle.move_rules.specs.Moves.{Move, local, receive, send, reply, outer_message, outer_reply, close}
use Rattle.move_rules.specs.Step.{Step, step}
use Rattle.move_rules.specs.Fresh.{fresh_bytes}
use Rattle.soundness.specs.Parts.{Reaches}
use Rattle.soundness.specs.Texts.{AllText, TextQueue, TextOut}
use Rattle.soundness.specs.KeyedQueues.{KeyedQueue}

-- "each queued message fits its operation's request type"
pub record FitsOperation (N : Network) (m : Queued) : Type 0 where
  pub operation : Operation
  pub there : operation_of_row N.operations m.operation ≡ some operation
  pub fit : Fits m.message operation.request

unfoldable pub QueueFits : Network → List Queued → Type 0
QueueFits N [] = Unit {0}
QueueFits N (m ∷ l) = FitsOperation N m × QueueFits N l

-- 01's *well typed*: "for some Γ its tree's own type is ≤ Γ, its rest is derived from Γ, and each queued message fits its operation's
-- request type", for a session of the service q that runs B. Γ has rising ids and is within the limits, as every Γ is. (Of a live session 1 to 3 that has
-- no branch of its starter taken, which no move from fresh makes, this asks that the starter keeps the rule of a choice.)
pub record WellTyped (N : Network) (q : ℕ) (B : Behaviour) (S : Session) : Type 0 where
  pub env : Types
  pub rising : Rising env
  pub limit : T (within env)
  pub fit : Subtypes (own_types S.tree) env
  pub last : Types
  pub derived : Derives q (rest S.progress B) env last
  pub queue : QueueFits N S.queue

-- A live session runs its service's client or starter, and is well typed.
pub record LiveWellTyped (N : Network) (q n : ℕ) (S : Session) : Type 0 where
  pub what : Behaviour
  pub runs : behaviour_in N q n ≡ some what
  pub well_typed : WellTyped N q what S

abbrev pub is_taken : Progress → Bool
is_taken undone = false
is_taken done = false
is_taken waits = false
is_taken (received to) = false
is_taken (taken k) = true

-- A reached assign, if or while that can move: "A row that .. has a part chosen isn't ready; a while whose body is done is again."
abbrev pub can_move : Progresses → Optional Local → Bool
can_move p none = false
can_move p (some (assigns r x e)) = is_undone (p r)
can_move p (some (decides r e a b)) = is_undone (p r)
can_move p (some (repeats r e b)) = is_undone (p r) || (is_taken (p r) && is_done p b)

abbrev pub is_ready_local : Progresses → Behaviour → Bool
is_ready_local p b = can_move p (local_of b)

-- The expression of a row: what a local row assigns or decides by, what an output sends.
abbrev pub local_expression : Optional Local → Optional Expression
local_expression none = none
local_expression (some (assigns r x e)) = some e
local_expression (some (decides r e a b)) = some e
local_expression (some (repeats r e b)) = some e

abbrev pub output_expression : Optional Output → Optional Expression
output_expression none = none
output_expression (some u) = some u.message

-- 02: "where the exact result is outside its width".
abbrev pub is_beyond : {A : Type 0} → Evaluation A → Bool
is_beyond missing = false
is_beyond wrong_kind = false
is_beyond (beyond b) = true
is_beyond (given x) = false

-- The row r of the session n of the service q, which is S, is reached.
pub record RowReached (N : Network) (G : State) (q n r : ℕ) (S : Session) : Type 0 where
  pub alive : G q n ≡ live S
  pub what : Behaviour
  pub runs : behaviour_in N q n ≡ some what
  pub row : Behaviour
  pub number : row_of row ≡ r
  pub way : Reaches S.progress row what

-- It is a ready assign, if or while with the expression e: it is reached, and can move.
pub record Ready (N : Network) (G : State) (q n r : ℕ) (S : Session) (e : Expression) : Type 0 where
  pub at : RowReached N G q n r S
  pub ready : T (is_ready_local S.progress at.row)
  pub works : local_expression (local_of at.row) ≡ some e

-- It is reached, and its expression has a result outside its width in the session's tree.
pub record LeavesRange (N : Network) (G : State) (q n r : ℕ) (of : Behaviour → Optional Expression) : Type 0 where
  pub session : Session
  pub at : RowReached N G q n r session
  pub expression : Expression
  pub works : of at.row ≡ some expression
  pub leaves : T (is_beyond (evaluate session.tree expression))

-- Why a move gives 22: a local move or a send whose row's expression has such a result.
abbrev pub Causes22 : Network → State → Move → Type 0
Causes22 N G (local q n r) = LeavesRange N G q n r (λ b. local_expression (local_of b))
Causes22 N G (receive q n r) = ⊥
Causes22 N G (send q n r to) = LeavesRange N G q n r (λ b. output_expression (output_of b))
Causes22 N G (reply q n r) = ⊥
Causes22 N G (outer_message q id n k) = ⊥
Causes22 N G (outer_reply q n r) = ⊥
Causes22 N G (close q n) = ⊥

-- A move's result is "a number and the bytes written out": as many of the out buffer as its outcome counts.
abbrev pub outgoing : Step → List ℕ
outgoing x = take x.outcome.bytes x.out

-- A move with its outside bytes and its out buffer.
pub record Turn : Type 0 where
  pub move : Move
  pub bytes : List ℕ
  pub out : List ℕ

-- "u32 reply number"
abbrev pub NumberFits : Move → Type 0
NumberFits (local q n r) = Unit {0}
NumberFits (receive q n r) = Unit {0}
NumberFits (send q n r to) = Unit {0}
NumberFits (reply q n r) = Unit {0}
NumberFits (outer_message q id n k) = k < 0x100000000
NumberFits (outer_reply q n r) = Unit {0}
NumberFits (close q n) = Unit {0}

-- Outside bytes are bytes, and a reply number is a u32; otherwise "any numbers, outside bytes and out buffer".
pub record Given (t : Turn) : Type 0 where
  pub octets : Octets t.bytes
  pub reply_number : NumberFits t.move

unfoldable pub AllGiven : List Turn → Type 0
AllGiven [] = Unit {0}
AllGiven (t ∷ l) = Given t × AllGiven l

-- The state's bytes after a list of moves on the file, and the number of the next move.
unfoldable pub after : List ℕ → List ℕ → List Turn → List ℕ
after file s [] = s
after file s (t ∷ l) = after file (step file s t.out t.move t.bytes).state l

abbrev pub number_of_next : List ℕ → List ℕ → Turn → ℕ
number_of_next file s t = outcome_number (step file s t.out t.move t.bytes).outcome

abbrev pub outgoing_of_next : List ℕ → List ℕ → Turn → List ℕ
outgoing_of_next file s t = outgoing (step file s t.out t.move t.bytes)

abbrev pub sends_or_replies : Move → Bool
sends_or_replies (local q n r) = false
sends_or_replies (receive q n r) = false
sends_or_replies (send q n r to) = true
sends_or_replies (reply q n r) = true
sends_or_replies (outer_message q id n k) = false
sends_or_replies (outer_reply q n r) = false
sends_or_replies (close q n) = false

-- The claims about a state G of the file; its next move is on its bytes. "after it live sessions are well typed"
abbrev pub AllWellTyped : List ℕ → State → Type 0
AllWellTyped file G = (q n : ℕ) (S : Session) → G q n ≡ live S → LiveWellTyped (network_of file) q n S

-- "no next move, on the same file and the state so left, gives 18"
abbrev pub Never18 : List ℕ → State → Type 0
Never18 file G = (t : Turn) → Given t → number_of_next file (state_bytes G) t ≡ 18 → ⊥

-- "no send or reply gives 19, one to an outsider included"
abbrev pub Never19 : List ℕ → State → Type 0
Never19 file G = (t : Turn) → Given t → T (sends_or_replies t.move) → number_of_next file (state_bytes G) t ≡ 19 → ⊥

-- "a ready assign, if or while" "moves, has such a result or gives 1 for its out buffer": 22 exactly if its expression has such a result.
abbrev pub ready_number : List ℕ → Session → Expression → ℕ
ready_number out S e = pick (leb out_room (length out)) (pick (is_beyond (evaluate S.tree e)) 22 0) 1

abbrev pub ReadyMoves : List ℕ → State → Type 0
ReadyMoves file G =
    (q n r : ℕ) (S : Session) (e : Expression) (bytes out : List ℕ) → Ready (network_of file) G q n r S e
    → number_of_next file (state_bytes G) (record { move = local q n r; bytes = bytes; out = out }) ≡ ready_number out S e

-- A next move that gives 22 has its cause.
abbrev pub Only22 : List ℕ → State → Type 0
Only22 file G = (t : Turn) → Given t → number_of_next file (state_bytes G) t ≡ 22 → Causes22 (network_of file) G t.move

-- "State trees and queues hold only well-formed strings": those of every live session.
abbrev pub AllTexts : State → Type 0
AllTexts G = (q n : ℕ) (S : Session) → G q n ≡ live S → AllText S.tree × TextQueue S.queue

-- A next move writes out no other.
abbrev pub WritesText : List ℕ → State → Type 0
WritesText file G = (t : Turn) → Given t → TextOut (outgoing_of_next file (state_bytes G) t)

-- Every message queued at a session that holds a key has that key; at session 0 of a keyed service none is queued.
abbrev pub KeyedQueues : List ℕ → State → Type 0
KeyedQueues file G = (q n : ℕ) (S : Session) → G q n ≡ live S → KeyedQueue (network_of file) q n S.key S.queue

-- What holds of a state from fresh. 02: "From fresh, no two live sessions of a service hold one key".
pub record Holds (file : List ℕ) (G : State) : Type 0 where
  pub well_typed : AllWellTyped file G
  pub never18 : Never18 file G
  pub never19 : Never19 file G
  pub ready_moves : ReadyMoves file G
  pub only22 : Only22 file G
  pub texts : AllTexts G
  pub writes_text : WritesText file G
  pub one_key : KeysApart (network_of file) G
  pub keyed_queues : KeyedQueues file G

-- An accepted file: bytes that the checker, which tries 2 to 13 and 23, passes.
pub record AcceptedFile (file : List ℕ) : Type 0 where
  pub octets : Octets file
  pub environments : List Environments
  pub passes : check_file file ≡ passed environments

-- Property 3, as the single claim about the list of moves l: the bytes after it are those of a state of the file's shape of which all this holds.
pub record Property3 (file : List ℕ) (l : List Turn) : Type 0 where
  pub state : State
  pub stands : Stands (network_of file) (behaviour_count file) (after file (fresh_bytes file) l) state
  pub holds : Holds file state
