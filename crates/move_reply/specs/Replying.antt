-- What the functions tell of a row that replies: `reply_at` and `reply_to` of move_rules/Moves, for files that none of 2 to 5 refuses.
use Rattle.std.specs.Prelude.{◌≡◌, true, List, ℕ, ◌<◌, ◌≤◌, length, take}
use Rattle.tree_forest.specs.Forest.{Tree, Lookup, absent, present}
use Rattle.tree_forest.specs.Path.{read}
use Rattle.scalar.specs.Value.{Value}
use Rattle.tree.specs.Encode.{Encodes}
use Rattle.tree_forest.specs.Limits.{session_levels, session_nodes}
use Rattle.refusal.specs.declared.Outcome.{Outcome}
use Rattle.network_syntax.specs.Syntax.{Network, Operation}
use Rattle.network_syntax.specs.Rows.{at_row}
use Rattle.network.specs.Form.{WellFormed}
use Rattle.network.specs.Layout.{path_count, behaviour_count, operation_count}
use Rattle.network.specs.Decode.{path_of, operation_of, behaviour_of, network_of}
use Rattle.state.specs.Places.{out_room}
use Rattle.state.specs.Session.{outsider, waiting_row, Session, State}
use Rattle.state.specs.Bytes.{read_session}
use Rattle.move_rules.specs.Moves.{Result, not_allowed, on_received, reply_to, reply_at}
use Rattle.move_rules.specs.Step.{Step, finish}
use Rattle.move_frame.specs.Made.{StateOf, InSession}
use Rattle.state_slots.specs.Living.{Living}
use Rattle.std.specs.Prelude.{Option, Some, None}

-- The reply of row r by its operation and reply path, where it was received; or 15.
abbrev pub replying_as : List ℕ → Network → State → ℕ → ℕ → Session → ℕ → Option (ℕ × ℕ) → Result
replying_as file N G q n S r None = not_allowed
replying_as file N G q n S r (Some (o, c)) = on_received (S.progress r) (reply_to N G q n S r (operation_of file o) (path_of file c))

-- They are rows of the file, and the operation has a reply type.
abbrev pub ReplyRowsExist : List ℕ → Option (ℕ × ℕ) → Type 0
ReplyRowsExist file None = Unit {0}
ReplyRowsExist file (Some (o, c)) = (o < operation_count file) × (c < path_count file) × ((operation_of file o).two_way ≡ true)

-- Row r of the session of service q in the slot, which runs B row b.
pub record ReplyingAt (file s : List ℕ) (slot b q r : ℕ) (x : Option (ℕ × ℕ)) : Type 0 where
  pub tells : WellFormed file → b < behaviour_count file → (N : Network) (G : State) (n : ℕ)
      → reply_at N G q n (read_session s slot) (at_row r (behaviour_of file b)) ≡ replying_as file N G q n (read_session s slot) r x
  pub exists : WellFormed file → b < behaviour_count file → ReplyRowsExist file x
  pub small : (o c : ℕ) → x ≡ Some (o, c) → r < 256

-- The tree that was read, alone in the first bytes of o; or that there is none.
abbrev pub ReadAs : List ℕ → Option ℕ → Lookup Value → Type 0
ReadAs o None l = l ≡ absent
ReadAs o (Some n) l = (t : Tree Value) × (l ≡ present t) × Encodes session_levels session_nodes (take n o) t

-- What stands at the path of P row c in the tree of the session in the slot.
pub record ReadsReply (file s : List ℕ) (slot c : ℕ) (o : List ℕ) (x : Option ℕ) : Type 0 where
  pub tells : WellFormed file → c < path_count file → (S : Session) → Living s slot S → ReadAs o x (read (path_of file c) S.tree)
  pub inside : (n : ℕ) → x ≡ Some n → n ≤ length o

-- The reply to an outsider, by row r of the session in the slot.
pub record RepliesOutside (file s : List ℕ) (slot r o c number : ℕ) (s' out out' : List ℕ) (a : Outcome) : Type 0 where
  pub tells : WellFormed file → ReplyRowsExist file (Some (o, c)) → (G : State) → StateOf file s G → (q n b : ℕ) (h : InSession file s G q n slot b)
      → out_room ≤ length out → ◌≡◌ {A = Step} (record { outcome = a; state = s'; out = out' })
      (finish s out (reply_to (network_of file) G q n h.session r (operation_of file o) (path_of file c) (outsider number)))

-- The reply to a waiting row, by row r of the session in the slot.
pub record RepliesInside (file s : List ℕ) (slot r c q2 n2 r2 : ℕ) (s' : List ℕ) (a : Outcome) : Type 0 where
  pub tells : WellFormed file → c < path_count file → (G : State) → StateOf file s G → (q n b : ℕ) (h : InSession file s G q n slot b)
      → (o : Operation) (out : List ℕ) → ◌≡◌ {A = Step} (record { outcome = a; state = s'; out = out })
      (finish s out (reply_to (network_of file) G q n h.session r o (path_of file c) (waiting_row q2 n2 r2)))
