-- What each part of a receive says, for every slot that holds a live session. 01: "receive: a ready input (in a choice it settles the branch)
-- takes the oldest queued message of its operation and replaces the subtree."
use Rattle.std.specs.Prelude.{◌≡◌, Bool, List, ℕ, ◌<◌, ◌≤◌, ltb, length}
use Rattle.tree_forest.specs.Path.{Path, replace_at}
use Rattle.refusal.specs.declared.Refusal.{Refusal}
use Rattle.refusal.specs.declared.Refusal.TheVariants.{MoveNotAllowed}
use Rattle.refusal.specs.declared.Outcome.{Outcome}
use Rattle.basics.specs.Choice.{pick}
use Rattle.network_syntax.specs.Syntax.{Operation, input}
use Rattle.check_typing.specs.Rules.{permits}
use Rattle.network.specs.Form.{WellFormed}
use Rattle.network.specs.Layout.{path_count, behaviour_count}
use Rattle.network.specs.Decode.{path_of, operation_of, behaviour_of}
use Rattle.state.specs.Places.{entry_start}
use Rattle.state.specs.Session.{Progress, taken, Progresses, advance, Session, State}
use Rattle.state.specs.Bytes.{read_entry, read_session}
use Rattle.move_rules.specs.Moves.{Result, refused, require, if_undone, receive_message, receive_at}
use Rattle.state.specs.Queue.{message, oldest}
use Rattle.scalar.specs.Value.{void_value}
use Rattle.move_rules.specs.Step.{Step, finish}
use Rattle.state_queues.specs.Queue.{without, removed}
use Rattle.state_trees.specs.Changing.{KeptTree}
use Rattle.move_frame.specs.Made.{StateOf, InSession}
use Rattle.state_slots.specs.Living.{Living}
use Rattle.state_slots.specs.Slots.{tree_stored}
use Rattle.state_progress.specs.Stored.{row_stored}
use Rattle.std.specs.Prelude as std
use Rattle.std.specs.Prelude.{Option, Some, None, Ok, Err}

-- "in a choice it settles the branch"
abbrev pub settled_by : Option (ℕ × ℕ) → Progresses → Progresses
settled_by None p = p
settled_by (Some (c, k)) p = advance p c (taken k)

-- A choice is a B row of the file.
abbrev pub SettlesRow : List ℕ → Option (ℕ × ℕ) → Type 0
SettlesRow file None = Unit {0}
SettlesRow file (Some (c, k)) = c < behaviour_count file

-- The bytes with the branch settled; rows past 255 are none.
abbrev pub settled_bytes : List ℕ → ℕ → Option (ℕ × ℕ) → List ℕ
settled_bytes s slot None = s
settled_bytes s slot (Some (c, k)) = pick (ltb c 256) (row_stored s slot c (taken k)) s

-- The bytes after all stores of a receive: the tree, the queue without the entry k, the branch, the input's progress.
abbrev pub stored_bytes : List ℕ → ℕ → List ℕ → ℕ → ℕ → Option (ℕ × ℕ) → ℕ → Progress → List ℕ
stored_bytes s slot tree n k x i y =
    row_stored (settled_bytes (removed (tree_stored s slot tree n) slot k) slot x) slot i y

-- The message that is taken, of those of the session S; or what a receive is refused as.
abbrev pub TakenAs : List ℕ → List ℕ → ℕ → ℕ → ℕ → List ℕ → Session → std.Result (ℕ × ℕ) Refusal → Type 0
TakenAs file s slot o p scratch S (Err why) =
    (G : State) (q n i : ℕ) (y : Progresses) → receive_message G q n S (path_of file p) y i (oldest o S.queue) ≡ refused why
TakenAs file s slot o p scratch S (Ok (k, n)) =
    (oldest o S.queue ≡ message (read_entry s (entry_start slot k)) (without k S.queue)) × (k < length S.queue)
    × KeptTree scratch n (replace_at void_value (path_of file p) (read_entry s (entry_start slot k)).message S.tree)

pub record Takes (file s : List ℕ) (slot o p : ℕ) (scratch : List ℕ) (x : std.Result (ℕ × ℕ) Refusal) : Type 0 where
  pub tells : WellFormed file → p < path_count file → (S : Session) → Living s slot S → read_session s slot ≡ S → TakenAs file s slot o p scratch S x
  pub bounds : (k n : ℕ) → x ≡ Ok (k, n) → (k < 4) × (n ≤ 1024)

-- The outcome and the state's bytes are those of the result.
pub record LeavesAs (s s' : List ℕ) (o : Outcome) (r : Result) : Type 0 where
  pub tells : (out : List ℕ) → ◌≡◌ {A = Step} (record { outcome = o; state = s'; out = out }) (finish s out r)

-- What an input of row i does, of move_rules' `receive_at`.
abbrev pub input_receives : State → ℕ → ℕ → Session → Progresses → ℕ → Operation → Path → Bool → Result
input_receives G q n S p i o x two =
    if_undone (S.progress i) (require (permits q input two o) MoveNotAllowed (receive_message G q n S x p i (oldest o.row S.queue)))

pub record ReceivesInput (file : List ℕ) (q slot i : ℕ) (x : Option (ℕ × ℕ)) (o p : ℕ) (two : Bool) (s s' : List ℕ) (r : Outcome) : Type 0 where
  pub tells : WellFormed file → (G : State) → StateOf file s G → (n b : ℕ) (h : InSession file s G q n slot b) → p < path_count file → SettlesRow file x
      → LeavesAs s s' r (input_receives G q n h.session (settled_by x h.session.progress) i (operation_of file o) (path_of file p) two)

pub record ReceivesAt (file : List ℕ) (q slot i : ℕ) (x : Option (ℕ × ℕ)) (s s' : List ℕ) (r : Outcome) : Type 0 where
  pub tells : WellFormed file → (G : State) → StateOf file s G → (n b : ℕ) (h : InSession file s G q n slot b) → i < behaviour_count file → SettlesRow file x
      → LeavesAs s s' r (receive_at G q n h.session (settled_by x h.session.progress) (behaviour_of file i))
