-- When bytes are the byte form of what is read from them, as tests of the bytes at their places: what code that reads a state has to test
-- (FormLaws: `slot-holds` and `holds-slot`, `decode-slots`). 01: each state "has one byte form"; a byte that is not used is 0.
use Rattle.std.specs.Prelude.{Bool, true, ◌&&◌, ◌||◌, List, ℕ, zero, suc, ◌+◌, ◌-◌, ◌*◌, ◌/◌, ◌%◌, eqb, leb}
use Rattle.basics.specs.Choice.{pick}
use Rattle.network_syntax.specs.Syntax.{Network}
use Rattle.wire.specs.Wire.{byte_at, u16_at, part}
use Rattle.tree.specs.Decode.{is_message, is_session_tree}
use Rattle.state.specs.Places.{slot_size, tree_room, message_room, entry_size, row_size, tree_place, queue_place, rows_place, kept_place, kept_size}
use Rattle.state.specs.Bytes.{tree_length, read_slot}
use Rattle.state.specs.Shape.{suits_slot}

-- The n bytes from `at` on are 0.
unfoldable pub all_zero : List ℕ → ℕ → ℕ → Bool
all_zero s at zero = true
all_zero s at (suc n) = eqb (byte_at s at) 0 && all_zero s (at + 1) n

-- A row's progress: only a taken part uses byte 1, only a received row bytes 2 to 5.
unfoldable pub progress_form : List ℕ → ℕ → Bool
progress_form s at =
    pick (eqb (byte_at s at) 3) (all_zero s (at + 2) 4)
    (pick (eqb (byte_at s at) 4 || eqb (byte_at s at) 5) (eqb (byte_at s (at + 1)) 0)
    (leb (byte_at s at) 5 && all_zero s (at + 1) 5))

-- The progress of n rows.
unfoldable pub rows_form : List ℕ → ℕ → ℕ → Bool
rows_form s at zero = true
rows_form s at (suc n) = progress_form s at && rows_form s (at + row_size) n

-- A used entry of the queue: a message of the length it says, and zeros.
unfoldable pub entry_form : List ℕ → ℕ → Bool
entry_form s at =
    (leb (byte_at s (at + 1)) 2 && (pick (eqb (byte_at s (at + 1)) 0) (all_zero s (at + 4) 4) true)) &&
    (leb (u16_at s (at + 2)) message_room &&
    (is_message (part s (at + 8) (u16_at s (at + 2))) && all_zero s (at + 8 + u16_at s (at + 2)) (message_room - u16_at s (at + 2))))

-- A queue of n entries: used ones, then zeros.
unfoldable pub queue_form : List ℕ → ℕ → ℕ → Bool
queue_form s at zero = true
queue_form s at (suc n) = pick (eqb (byte_at s at) 0) (all_zero s at (entry_size * suc n)) (entry_form s at && queue_form s (at + entry_size) n)

-- A live slot's head: the bytes that are kept 0. (Its tree's length is tested with the tree; any four bytes are a key.)
unfoldable pub head_form : List ℕ → ℕ → Bool
head_form s at = (eqb (byte_at s at) 1 && eqb (byte_at s (at + 1)) 0) && all_zero s (at + 8) 8

-- Its tree, of the length it says, and zeros.
unfoldable pub tree_form : List ℕ → ℕ → Bool
tree_form s at =
    leb (tree_length s at) tree_room &&
    (is_session_tree (part s (at + tree_place) (tree_length s at)) && all_zero s (at + tree_place + tree_length s at) (tree_room - tree_length s at))

unfoldable pub live_form : List ℕ → ℕ → Bool
live_form s at =
    (head_form s at && tree_form s at) &&
    (queue_form s (at + queue_place) 4 && (rows_form s (at + rows_place) 256 && all_zero s (at + kept_place) kept_size))

-- The slot that starts at `at`.
unfoldable pub slot_form : List ℕ → ℕ → Bool
slot_form s at = pick (eqb (byte_at s at) 0) (all_zero s at slot_size) (live_form s at)

-- The slots k - 1 down to 0 have the form, and what is read from each suits the file.
unfoldable pub slots_stand : Network → ℕ → List ℕ → ℕ → Bool
slots_stand N rows s zero = true
slots_stand N rows s (suc k) =
    (slot_form s (slot_size * k) && suits_slot N rows (k / 4) (k % 4) (read_slot s (slot_size * k))) && slots_stand N rows s k

-- The first of the two alone.
unfoldable pub slots_form : List ℕ → ℕ → Bool
slots_form s zero = true
slots_form s (suc k) = slot_form s (slot_size * k) && slots_form s k
