-- A slot that holds a live session (docs/STATE.md, "A slot").
use Rattle.std.specs.Prelude.{◌≡◌, List, ℕ, ◌+◌, ◌≤◌, length}
use Rattle.wire.specs.Wire.{part}
use Rattle.state.specs.Places.{slot_size}
use Rattle.state.specs.Session.{Session, live}
use Rattle.state.specs.Bytes.{slot_bytes}
use Rattle.state.specs.Shape.{WellMade}

-- The slot that starts at `at` holds the live session S.
pub record Living (s : List ℕ) (at : ℕ) (S : Session) : Type 0 where
  pub inside : at + slot_size ≤ length s
  pub bytes : part s at slot_size ≡ slot_bytes (live S)
  pub made : WellMade S
