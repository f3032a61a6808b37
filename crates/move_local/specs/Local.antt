-- What the functions of local moves promise, for every file that none of 2 to 5 refuses and every slot that holds a live session. 01, Moves:
-- "local: a ready assign, if or while; assign sets one root value and keeps children."
use Rattle.std.specs.Prelude.{◌≡◌, Bool, true, false, List, ℕ, ◌<◌}
use Rattle.tree_forest.specs.Path.{set_payload_at}
use Rattle.scalar.specs.Scalar.{value_of}
use Rattle.scalar.specs.declared.Operand.{Operand}
use Rattle.refusal.specs.declared.Outcome.{Outcome}
use Rattle.network.specs.Form.{WellFormed}
use Rattle.network.specs.Layout.{path_count, expression_count, behaviour_count}
use Rattle.network.specs.Decode.{path_of, expression_of, behaviour_of}
use Rattle.network_rows.specs.declared.BehaviourRow.{BehaviourRow}
use Rattle.network_row_parts.specs.Behaviours.{behaviour_by, KeptBy}
use Rattle.state.specs.Session.{Progress, undone, done, waits, received, taken, Session, State}
use Rattle.move_rules.specs.Evaluation.{leaf, evaluate}
use Rattle.move_rules.specs.Moves.{Result, on_truth, assigned, unassigned, local_at}
use Rattle.scalar.specs.Value.{void_value}
use Rattle.move_rules.specs.Step.{Step, finish}
use Rattle.move_evaluation.specs.declared.Fault.{Fault}
use Rattle.move_evaluation.specs.Condition.{on_condition}
use Rattle.state_trees.specs.Changing.{ChangedTo}
use Rattle.move_frame.specs.Made.{StateOf, InSession}
use Rattle.state_slots.specs.Living.{Living}
use Rattle.std.specs.Prelude.{Option, Some, None}
use Rattle.std.specs.Prelude as std

-- Moves' `if_ready_while` as a test: "a while whose body is done is again".
abbrev pub ready_while : Progress → Bool → Bool
ready_while undone body_done = true
ready_while done body_done = false
ready_while waits body_done = false
ready_while (received to) body_done = false
ready_while (taken k) body_done = body_done

-- A condition, by its E row: a move goes on as the definition does. 18: "condition .. of the wrong kind"; 22.
pub record Decides (file s : List ℕ) (slot e : ℕ) (d : std.Result Bool Fault) : Type 0 where
  pub tells : WellFormed file → (S : Session) → Living s slot S → e < expression_count file → (f : Bool → Result)
      → on_truth (evaluate S.tree (expression_of file e)) f ≡ on_condition d f

-- The value v set at P row p: "sets one root value and keeps children".
pub record SetsRoot (file s : List ℕ) (slot p : ℕ) (v : Operand) (o : List ℕ) (x : Option ℕ) : Type 0 where
  pub tells : WellFormed file → (S : Session) → Living s slot S → p < path_count file
      → ChangedTo o x (set_payload_at void_value (path_of file p) (value_of v) S.tree)

-- Row r assigns the value v to P row p: outcome and state's bytes are those of the definition.
pub record AssignsValue (file s s' : List ℕ) (slot r p : ℕ) (v : Operand) (o : Outcome) : Type 0 where
  pub tells : WellFormed file → (G : State) → StateOf file s G → (q n b : ℕ) (h : InSession file s G q n slot b) → p < path_count file
      → (out : List ℕ)
      → ◌≡◌ {A = Step} (record { outcome = o; state = s'; out = out }) (finish s out (assigned G q n h.session r (path_of file p) (leaf (value_of v))))

-- The value for P row p is outside its width.
pub record RefusesValue (file s : List ℕ) (slot p : ℕ) (o : Outcome) : Type 0 where
  pub tells : WellFormed file → (G : State) (q n b : ℕ) (h : InSession file s G q n slot b) → p < path_count file → (out : List ℕ)
      → ◌≡◌ {A = Step} (record { outcome = o; state = s; out = out }) (finish s out (unassigned G q n h.session (path_of file p)))

-- A reached B row i that is y, and any reached B row i: outcome and state's bytes are those of the definition, in whatever session the slot
-- that starts at `slot` has. No local move writes out.
pub record MadeBy (y : BehaviourRow) (file s s' : List ℕ) (slot i : ℕ) (o : Outcome) : Type 0 where
  pub tells : WellFormed file → (G : State) → StateOf file s G → (q n b left : ℕ) (h : InSession file s G q n slot b) → KeptBy file left y
      → (out : List ℕ)
      → ◌≡◌ {A = Step} (record { outcome = o; state = s'; out = out }) (finish s out (local_at G q n h.session (behaviour_by file i y)))

pub record RowMade (file s s' : List ℕ) (slot i : ℕ) (o : Outcome) : Type 0 where
  pub tells : WellFormed file → (G : State) → StateOf file s G → (q n b : ℕ) (h : InSession file s G q n slot b) → i < behaviour_count file
      → (out : List ℕ)
      → ◌≡◌ {A = Step} (record { outcome = o; state = s'; out = out }) (finish s out (local_at G q n h.session (behaviour_of file i)))
