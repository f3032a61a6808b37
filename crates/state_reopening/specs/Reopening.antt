-- Bytes in which rows are set to undone. 01, Moves: "a while whose body is done is again" ready; taking its body sets every row below it to
-- undone (docs/DECISIONS.md, 40). `ReopeningLaws` says what this is of a state: Session's `reopen`.
use Rattle.std.specs.Prelude.{◌≡◌, List, [], ◌∷◌, Bool, ◌&&◌, ℕ, suc, ◌+◌, ◌-◌, ◌/◌, leb, ltb, length}
use Rattle.wire.specs.Wire.{byte_at}
use Rattle.basics.specs.Choice.{pick}
use Rattle.network_syntax.specs.Rows.{has_row}
use Rattle.network.specs.Decode.{behaviour_of}
use Rattle.state.specs.Places.{row_size, rows_place, kept_place}

-- Does the place k belong to the progress of a row of which f holds, in the slot that starts at `slot`? "2,416 to 3,951: the progress of B rows
-- 0 to 255: six bytes each" (docs/STATE.md).
unfoldable pub in_rows : (ℕ → Bool) → ℕ → ℕ → Bool
in_rows f slot k = leb (slot + rows_place) k && (ltb k (slot + kept_place) && f ((k - (slot + rows_place)) / row_size))

-- The bytes, of which k stand before, with these places 0: an undone row is six zeros.
unfoldable pub undone_from : (ℕ → Bool) → ℕ → ℕ → List ℕ → List ℕ
undone_from f slot k [] = []
undone_from f slot k (b ∷ s) = pick (in_rows f slot k) 0 b ∷ undone_from f slot (suc k) s

-- The bytes with every row of which f holds undone.
abbrev pub with_undone : (ℕ → Bool) → ℕ → List ℕ → List ℕ
with_undone f slot s = undone_from f slot 0 s

-- The rows of the behaviour of B row r.
abbrev pub rows_below : List ℕ → ℕ → ℕ → Bool
rows_below file r i = has_row i (behaviour_of file r)

-- Byte for byte: the rows of which f holds are undone, and nothing else is changed.
pub record Clears (f : ℕ → Bool) (slot : ℕ) (before after : List ℕ) : Type 0 where
  pub long : length after ≡ length before
  pub bytes : (k : ℕ) → byte_at after k ≡ pick (in_rows f slot k) 0 (byte_at before k)
