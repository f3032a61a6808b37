-- What the functions tell, for every file that none of 2 to 5 refuses. 01, 14: "The state bytes stand for no state of this file's shape."
use Rattle.std.specs.Prelude.{◌≡◌, Bool, true, false, ◌&&◌, List, ℕ, ◌+◌, ◌*◌, ◌/◌, ◌%◌, ◌<◌}
use Rattle.basics.specs.Choice.{pick}
use Rattle.network_syntax.specs.Syntax.{Optional, none, some}
use Rattle.wire.specs.Wire.{byte_at}
use Rattle.network.specs.Layout.{behaviour_count}
use Rattle.network.specs.Rows.{no_row}
use Rattle.network.specs.Form.{WellFormed}
use Rattle.network.specs.Decode.{network_of, optional_behaviour}
use Rattle.state.specs.Places.{slot_size}
use Rattle.state.specs.Bytes.{read_reply, read_session, read_slot, read_state}
use Rattle.state.specs.Shape.{operation_of_row, suits_operation, behaviour_in, suits_behaviour, suits_slot, decode_state}
use Rattle.state.specs.Form.{slot_form}

-- Is there one?
abbrev pub is_some : {A : Type 0} → Optional A → Bool
is_some none = false
is_some (some a) = true

-- Do the bytes stand for a state of this file's shape?
unfoldable pub stands_for : List ℕ → List ℕ → Bool
stands_for file s = is_some (decode_state (network_of file) (behaviour_count file) s)

-- The queue entry that starts at `at`, of the O row w, suits the service q.
unfoldable pub suits_entry : List ℕ → List ℕ → ℕ → ℕ → ℕ → Bool
suits_entry file s q w at =
    suits_operation (network_of file) (behaviour_count file) q (read_reply s (byte_at s (at + 1)) (at + 4)) (operation_of_row (network_of file).operations w)

-- r is the B row that the session n of the service q runs; 65,535 for none.
pub record TopRow (file : List ℕ) (q n r : ℕ) : Type 0 where
  pub runs : behaviour_in (network_of file) q n ≡ optional_behaviour file r
  pub exists : WellFormed file → (r ≡ no_row → ⊥) → r < behaviour_count file

-- x tells whether the session in the slot at `at` suits what session n of the service q runs.
pub record SessionTells (file s : List ℕ) (q n at : ℕ) (x : Bool) : Type 0 where
  pub tells : WellFormed file
      → x ≡ suits_behaviour (network_of file) (behaviour_count file) q (read_session s at) (behaviour_in (network_of file) q n)

-- x tells whether slot k has the form of a slot, and what is read from it suits the file.
pub record SlotTells (file s : List ℕ) (k : ℕ) (x : Bool) : Type 0 where
  pub tells : WellFormed file → x
      ≡ (slot_form s (slot_size * k) && suits_slot (network_of file) (behaviour_count file) (k / 4) (k % 4) (read_slot s (slot_size * k)))

-- x tells whether the bytes stand for a state of this file's shape; if so, it is the state that is read from them.
pub record Tells (file s : List ℕ) (x : Bool) : Type 0 where
  pub tells : WellFormed file → x ≡ stands_for file s
  pub decodes : WellFormed file → decode_state (network_of file) (behaviour_count file) s ≡ pick x (some (read_state s)) none
