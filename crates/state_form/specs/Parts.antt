-- A part of what state/Form says of a queue entry.
use Rattle.std.specs.Prelude.{Bool, true, ◌&&◌, List, ℕ, ◌+◌, eqb, leb}
use Rattle.basics.specs.Choice.{pick}
use Rattle.wire.specs.Wire.{byte_at}
use Rattle.state.specs.Form.{all_zero}

-- A used entry's destination: "0 nowhere, 1 to an outsider, 2 to a waiting row"; "zeros if byte 1 is 0" (docs/STATE.md).
unfoldable pub destination_form : List ℕ → ℕ → Bool
destination_form s at = leb (byte_at s (at + 1)) 2 && (pick (eqb (byte_at s (at + 1)) 0) (all_zero s (at + 4) 4) true)
