-- What the functions tell of a row that waits for its reply, and of a reply taken: `on_waiting_row` and `take_reply` of move_rules/Moves, for files
-- that none of 2 to 5 refuses.
use Rattle.std.specs.Prelude.{◌≡◌, Bool, true, List, ℕ, ◌+◌, ◌<◌, ◌≤◌}
use Rattle.tree_forest.specs.Forest.{Forest, Tree}
use Rattle.tree_forest.specs.Path.{Path}
use Rattle.scalar.specs.Value.{Value}
use Rattle.tree.specs.Encode.{Message}
use Rattle.refusal.specs.declared.Outcome.{Outcome}
use Rattle.wire.specs.Wire.{with_part}
use Rattle.network_syntax.specs.Syntax.{Operation}
use Rattle.network_syntax.specs.Rows.{has_row, at_row}
use Rattle.network.specs.Form.{WellFormed}
use Rattle.network.specs.Layout.{path_count, behaviour_count, operation_count}
use Rattle.network.specs.Decode.{path_of, operation_of, behaviour_of}
use Rattle.state.specs.Places.{slot_size}
use Rattle.state.specs.Session.{done, advance, Session, with_tree, with_progress, live, State}
use Rattle.state.specs.Bytes.{slot_bytes, read_session}
use Rattle.state.specs.Shape.{WellMade}
use Rattle.move_rules.specs.Moves.{Result, not_allowed, on_waiting_row, gone_on, take_reply}
use Rattle.move_rules.specs.Step.{Step, finish}
use Rattle.state_trees.specs.Changing.{KeptTree}
use Rattle.move_frame.specs.Made.{StateOf, InSession}
use Rattle.state_slots.specs.Living.{Living}
use Rattle.state_progress.specs.Stored.{row_stored}
use Rattle.move_waiting.specs.declared.Sender.{Sender}
use Rattle.std.specs.Prelude.{Option, Some, None}

-- x tells whether row r is one of the behaviour of B row b.
pub record HasRow (file : List ℕ) (b r : ℕ) (x : Bool) : Type 0 where
  pub tells : WellFormed file → b < behaviour_count file → x ≡ has_row r (behaviour_of file b)
  pub small : x ≡ true → r < 256

-- What goes on with the row's operation and path, or 15.
abbrev pub waiting_as : List ℕ → Option (ℕ × ℕ) → (Operation → Path → Result) → Result
waiting_as file None f = not_allowed
waiting_as file (Some (o, x)) f = f (operation_of file o) (path_of file x)

-- They are rows of the file, and the operation has a reply type.
abbrev pub WaitingRowsExist : List ℕ → Option (ℕ × ℕ) → Type 0
WaitingRowsExist file None = Unit {0}
WaitingRowsExist file (Some (o, x)) = (o < operation_count file) × (x < path_count file) × ((operation_of file o).two_way ≡ true)

-- Row r of the session of service q in the slot, which runs B row b.
pub record WaitsAt (file s : List ℕ) (slot b q r : ℕ) (x : Option (ℕ × ℕ)) : Type 0 where
  pub tells : WellFormed file → b < behaviour_count file → (f : Operation → Path → Result)
      → waiting_as file x f ≡ on_waiting_row q (read_session s slot) (at_row r (behaviour_of file b)) f
  pub exists : WellFormed file → b < behaviour_count file → WaitingRowsExist file x
  pub small : (o p : ℕ) → x ≡ Some (o, p) → r < 256

-- The session with the tree F and its row r done.
abbrev pub replied : Session → ℕ → Forest Value → Session
replied S r F = with_progress (with_tree S F) (advance S.progress r done)

-- That session, whose tree stands in the first n bytes of t, is in the slot.
pub record PutsReply (s : List ℕ) (slot r : ℕ) (t : List ℕ) (n : ℕ) (s' : List ℕ) : Type 0 where
  pub tells : (S : Session) (F : Forest Value) → Living s slot S → KeptTree t n F
      → (s' ≡ with_part s slot (slot_bytes (live (replied S r F)))) × WellMade (replied S r F)

-- Its row is one of the state's.
abbrev pub SenderInside : ℕ → Sender → Type 0
SenderInside size Sender.Outsider = Unit {0}
SenderInside size (Sender.Row slot r) = (slot + slot_size ≤ size) × (r < 256)

-- The bytes with that row done.
abbrev pub settled : List ℕ → Sender → List ℕ
settled s Sender.Outsider = s
settled s (Sender.Row slot r) = row_stored s slot r done

-- The state in which that row is done.
abbrev pub Settled : List ℕ → List ℕ → State → Sender → State → Type 0
Settled file s G Sender.Outsider gone = gone ≡ G
Settled file s G (Sender.Row slot r) gone =
    (q : ℕ) × (n : ℕ) × (b : ℕ) × ((h : InSession file s G q n slot b) × (gone ≡ gone_on G q n h.session r done))

-- The waiting row r of a live session takes the message of m as its reply, in the state in which the row that replies is done.
pub record TakesReply (file s : List ℕ) (from : Sender) (slot r path : ℕ) (m s' : List ℕ) (o : Outcome) : Type 0 where
  pub tells : WellFormed file → path < path_count file → (G : State) → StateOf file s G → (gone : State) → Settled file s G from gone → (q n b : ℕ)
      → InSession file s G q n slot b → (t : Tree Value) → Message m t → (out : List ℕ)
      → ◌≡◌ {A = Step} (record { outcome = o; state = s'; out = out }) (finish s out (take_reply gone q n r (path_of file path) t))
