-- The bytes of a state with the progress x of the row r stored, in the slot that starts at `slot` (docs/STATE.md, "A row's progress").
use Rattle.std.specs.Prelude.{List, ℕ}
use Rattle.wire.specs.Wire.{with_part}
use Rattle.state.specs.Places.{row_start}
use Rattle.state.specs.Session.{Progress}
use Rattle.state.specs.Bytes.{progress_bytes}

unfoldable pub row_stored : List ℕ → ℕ → ℕ → Progress → List ℕ
row_stored s slot r x = with_part s (row_start slot r) (progress_bytes x)
