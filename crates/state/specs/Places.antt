-- Sizes and places in the bytes of a state (docs/STATE.md). Each number stands here once; code has the same in src/lib.rt.
use Rattle.std.specs.Prelude.{ℕ, ◌+◌, ◌-◌, ◌*◌}

-- 01, 1: "The state buffer is not 65,536 bytes or the out buffer is below 512."
abbrev pub state_size : ℕ
state_size = 65536

abbrev pub out_room : ℕ
out_room = 512

-- A slot takes 4,096 bytes: a head of 16, the tree in 1,024, a queue of four entries of 344, the progress of 256 rows in 6 each; the rest
-- is kept 0. An entry holds its message in 336.
abbrev pub slot_size : ℕ
slot_size = 4096

abbrev pub head_size : ℕ
head_size = 16

abbrev pub tree_room : ℕ
tree_room = 1024

abbrev pub message_room : ℕ
message_room = 336

abbrev pub entry_size : ℕ
entry_size = 344

abbrev pub queue_size : ℕ
queue_size = 4 * entry_size

abbrev pub row_size : ℕ
row_size = 6

abbrev pub rows_size : ℕ
rows_size = 256 * row_size

-- Where in a slot the tree's length stands, the key, the tree, the queue (1,040), the rows (2,416), and the bytes after them (3,952).
abbrev pub length_place : ℕ
length_place = 2

abbrev pub key_place : ℕ
key_place = 4

abbrev pub tree_place : ℕ
tree_place = head_size

abbrev pub queue_place : ℕ
queue_place = tree_place + tree_room

abbrev pub rows_place : ℕ
rows_place = queue_place + queue_size

abbrev pub kept_place : ℕ
kept_place = rows_place + rows_size

abbrev pub kept_size : ℕ
kept_size = slot_size - kept_place

-- Where the slot of the service q and the session n starts; in the slot that starts at `slot`, the entry k and the row r.
abbrev pub slot_start : ℕ → ℕ → ℕ
slot_start q n = slot_size * (4 * q + n)

abbrev pub entry_start : ℕ → ℕ → ℕ
entry_start slot k = slot + queue_place + entry_size * k

abbrev pub row_start : ℕ → ℕ → ℕ
row_start slot r = slot + rows_place + row_size * r
