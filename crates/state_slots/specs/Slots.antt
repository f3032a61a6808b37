-- What code reads from a slot and stores in it: the bytes of a state, with the slot that starts at `at` (docs/STATE.md, "A slot").
use Rattle.std.specs.Prelude.{List, [], ℕ, ◌+◌, leb, take, set}
use Rattle.basics.specs.Choice.{pick}
use Rattle.wire.specs.Wire.{part, with_part}
use Rattle.state.specs.Places.{tree_room, length_place, key_place, tree_place}
use Rattle.state.specs.Session.{free}
use Rattle.state.specs.Bytes.{padded, slot_bytes, tree_length}
use Rattle.wire.specs.Wire.{u16_bytes, u32_bytes}

-- The tree's bytes, as many as its length says; none where that is past 1,024, as in no state.
unfoldable pub tree_in : List ℕ → ℕ → List ℕ
tree_in s at = pick (leb (tree_length s at) tree_room) (part s (at + tree_place) (tree_length s at)) []

-- A session begun in a free slot: live, with a tree of 5 bytes, the empty root, whose basic type is void.
unfoldable pub begun : List ℕ → ℕ → List ℕ
begun s at = set (set (set s at 1) (at + length_place) 5) (at + tree_place + 2) 6

-- The tree stored, of the first n bytes of `tree`: its length, and its bytes with zeros after them.
unfoldable pub tree_stored : List ℕ → ℕ → List ℕ → ℕ → List ℕ
tree_stored s at tree n = with_part (with_part s (at + length_place) (u16_bytes n)) (at + tree_place) (padded tree_room (take n tree))

-- The key stored.
unfoldable pub key_stored : List ℕ → ℕ → ℕ → List ℕ
key_stored s at x = with_part s (at + key_place) (u32_bytes x)

-- The slot freed.
unfoldable pub freed : List ℕ → ℕ → List ℕ
freed s at = with_part s at (slot_bytes free)
