-- What the functions tell of a row that sends: `send_at` and `send_by` of move_rules/Moves, for files that none of 2 to 5 refuses.
use Rattle.std.specs.Prelude.{◌≡◌, Bool, true, false, List, ℕ, ◌<◌, ◌≤◌, length}
use Rattle.refusal.specs.declared.Outcome.{Outcome}
use Rattle.refusal.specs.declared.Refusal.{Refusal}
use Rattle.refusal.specs.declared.Refusal.TheVariants.{MoveNotAllowed}
use Rattle.check_typing.specs.Rules.{permits}
use Rattle.network_syntax.specs.Syntax.{Optional, none, some, Network, output}
use Rattle.network.specs.Form.{WellFormed}
use Rattle.network.specs.Layout.{expression_count, behaviour_count, operation_count}
use Rattle.network.specs.Decode.{expression_of, operation_of, behaviour_of, network_of}
use Rattle.state.specs.Places.{out_room}
use Rattle.state.specs.Session.{Destination, waiting_row, Progress, done, waits, Session, State}
use Rattle.state.specs.Bytes.{read_session}
use Rattle.move_rules.specs.Evaluation.{evaluate}
use Rattle.move_rules.specs.Moves.{Result, not_allowed, require, if_undone, send_inside, send_outside, send_by, send_at}
use Rattle.move_rules.specs.Step.{Step, finish}
use Rattle.move_evaluation.specs.declared.Fault.{Fault}
use Rattle.move_evaluation.specs.Condition.{refusal_of}
use Rattle.move_evaluation.specs.Writing.{bytes_written, WrittenAs}
use Rattle.move_frame.specs.Made.{StateOf, InSession}
use Rattle.state_slots.specs.Living.{Living}
use Rattle.std.specs.Prelude.{Option, Some, None}
use Rattle.std.specs.Prelude as std
use Rattle.std.specs.Prelude.{Ok, Err}

-- The sender's row once sent: "A solicit-response then waits." Where the reply goes: to that row; to a notification there is none.
abbrev pub after_sending : Bool → Progress
after_sending true = waits
after_sending false = done

abbrev pub reply_back : Bool → ℕ → ℕ → ℕ → Optional Destination
reply_back true q n r = some (waiting_row q n r)
reply_back false q n r = none

-- What row i sends by its operation and message; or 15.
abbrev pub sending_as : List ℕ → Network → State → ℕ → ℕ → Session → ℕ → ℕ → Option (ℕ × ℕ × Bool) → Result
sending_as file N G q n S to i None = not_allowed
sending_as file N G q n S to i (Some (o, e, two)) =
    send_by N G q n S to i (operation_of file o) (expression_of file e) (after_sending two) (reply_back two q n i)

-- They are rows of the file.
abbrev pub SendRowsExist : List ℕ → Option (ℕ × ℕ × Bool) → Type 0
SendRowsExist file None = Unit {0}
SendRowsExist file (Some (o, e, two)) = (o < operation_count file) × (e < expression_count file)

-- What row i sends if it is undone and 6 passes its operation; or 15.
abbrev pub ready_as : List ℕ → Network → State → ℕ → ℕ → Session → ℕ → ℕ → Option (ℕ × ℕ × Bool) → Result
ready_as file N G q n S to i None = not_allowed
ready_as file N G q n S to i (Some (o, e, two)) =
    if_undone (S.progress i) (require (permits q output two (operation_of file o)) MoveNotAllowed (sending_as file N G q n S to i (Some (o, e, two))))

-- B row i, if it is an output.
pub record OutputAt (file : List ℕ) (i : ℕ) (x : Option (ℕ × ℕ × Bool)) : Type 0 where
  pub tells : WellFormed file → i < behaviour_count file → (N : Network) (G : State) (q n : ℕ) (S : Session) (to : ℕ)
      → send_at N G q n S to (behaviour_of file i) ≡ ready_as file N G q n S to i x
  pub exists : WellFormed file → i < behaviour_count file → SendRowsExist file x

-- Row i of the session of service q in the slot.
pub record SendingAt (file s : List ℕ) (slot q i : ℕ) (x : Option (ℕ × ℕ × Bool)) : Type 0 where
  pub tells : WellFormed file → i < behaviour_count file → (N : Network) (G : State) (n to : ℕ)
      → send_at N G q n (read_session s slot) to (behaviour_of file i) ≡ sending_as file N G q n (read_session s slot) to i x
  pub exists : WellFormed file → i < behaviour_count file → SendRowsExist file x
  pub small : (o e : ℕ) (two : Bool) → x ≡ Some (o, e, two) → i < 256

-- The value of E row e in the tree of the session in the slot.
pub record WritesMessage (file s : List ℕ) (slot e : ℕ) (o : List ℕ) (x : std.Result ℕ Fault) : Type 0 where
  pub tells : WellFormed file → e < expression_count file → (S : Session) → Living s slot S → WrittenAs o x (evaluate S.tree (expression_of file e))
  pub inside : bytes_written x ≤ length o

-- 18: "A value read is missing, an operand .. is of the wrong kind"; 22.
abbrev pub written_verdict : std.Result ℕ Fault → std.Result (Unit {0}) Refusal
written_verdict (Ok n) = Ok tt
written_verdict (Err k) = Err (refusal_of k)

-- A message of E row e by O row o to a location outside, by row i of the session in the slot.
pub record SendsOutside (file s : List ℕ) (slot i o e to : ℕ) (after : Progress) (s' out out' : List ℕ) (a : Outcome) : Type 0 where
  pub tells : WellFormed file → o < operation_count file → e < expression_count file → (G : State) → StateOf file s G → (q n b : ℕ)
      (h : InSession file s G q n slot b) → out_room ≤ length out → ◌≡◌ {A = Step} (record { outcome = a; state = s'; out = out' })
      (finish s out (send_outside (network_of file) G q n h.session to i (operation_of file o) (expression_of file e) after))

-- A message of E row e to the input of O row k, by row i of the session in the slot.
pub record SendsInside (file s : List ℕ) (slot i k e to : ℕ) (after : Progress) (back : Optional Destination) (s' : List ℕ) (a : Outcome) : Type 0 where
  pub tells : WellFormed file → k < operation_count file → e < expression_count file → (G : State) → StateOf file s G → (q n b : ℕ)
      (h : InSession file s G q n slot b) → (out : List ℕ) → ◌≡◌ {A = Step} (record { outcome = a; state = s'; out = out })
      (finish s out (send_inside (network_of file) G q n h.session to i (expression_of file e) after back (operation_of file k)))

-- A message of E row e by O row o, by row i of the session in the slot.
pub record SendsBy (file s : List ℕ) (slot i o e to : ℕ) (after : Progress) (back : Optional Destination) (s' out out' : List ℕ) (a : Outcome) : Type 0 where
  pub tells : WellFormed file → o < operation_count file → e < expression_count file → (G : State) → StateOf file s G → (q n b : ℕ)
      (h : InSession file s G q n slot b) → out_room ≤ length out → ◌≡◌ {A = Step} (record { outcome = a; state = s'; out = out' })
      (finish s out (send_by (network_of file) G q n h.session to i (operation_of file o) (expression_of file e) after back))
