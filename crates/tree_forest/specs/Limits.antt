-- The limits of trees, each said once.
use Rattle.std.specs.Prelude.{ℕ}

-- 01, Message: "at most 16 nodes, 4 levels": one of each is the root.
abbrev pub message_nodes_below : ℕ
message_nodes_below = 15

abbrev pub message_levels_below : ℕ
message_levels_below = 3

-- 01, 18: "48 nodes or 6 levels", of a session's tree below its root, and Typing: "at most 48 nodes and 6 levels below its empty root".
abbrev pub session_nodes : ℕ
session_nodes = 48

abbrev pub session_levels : ℕ
session_levels = 6
