-- What writing a row's progress is of a state: in a live session's slot it is Session's `advance`, and nothing else changes.
use Rattle.std.specs.Prelude.{ℕ, ◌+◌, ◌≤◌, ◌<◌, ◌≡◌, List, length}
use Rattle.std.proofs.Common.{sym, ◌∙◌, ap, arith}
use Rattle.wire.specs.Wire.{with_part}
use Rattle.wire.specs.WireLaws.{length-with_part}
use Rattle.state.specs.Places.{slot_size, slot_start, row_start}
use Rattle.state.specs.Session.{Progress, advance, Session, with_progress, Slot, live, State, set_slot}
use Rattle.state.specs.Bytes.{progress_bytes, slot_bytes, state_bytes}
use Rattle.state.proofs.SizeLaws.{progress-size, SessionFits, Sized}
use Rattle.state.proofs.ChangeLaws.{set-part, change-row}
use Rattle.state_progress.specs.Stored.{row_stored}

pub row-bytes : {G : State} → Sized G → (q n : ℕ) → q < 4 → n < 4 → (S : Session) → G q n ≡ live S → SessionFits S → (r : ℕ) (x : Progress) → r < 256
    → row_stored (state_bytes G) (slot_start q n) r x ≡ state_bytes (set_slot G q n (live (with_progress S (advance S.progress r x))))
unfolding row_stored
row-bytes {G} z q n i j S e w r x l =
    let y = live (with_progress S (advance S.progress r x)) in
    let at : row_start (slot_start q n) r ≡ slot_start q n + row_start 0 r = omega arith in
    ap (λ (k : ℕ). with_part (state_bytes G) k (progress_bytes x)) at
    ∙ sym (set-part z q n y (row_start 0 r) (progress_bytes x) i j (omega (arith, progress-size x))
    (change-row S w r x l ∙ ap (λ (t : Slot). with_part (slot_bytes t) (row_start 0 r) (progress_bytes x)) (sym e)))

-- As many bytes as before.
pub row-stored-length : (s : List ℕ) (slot r : ℕ) (x : Progress) → slot + slot_size ≤ length s → r < 256 → length (row_stored s slot r x) ≡ length s
unfolding row_stored
row-stored-length s slot r x h l = length-with_part s (row_start slot r) (progress_bytes x) (omega (arith, progress-size x))
