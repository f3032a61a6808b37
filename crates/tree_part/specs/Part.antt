-- The message reader's answer. 01: "The message reader takes a message and a path's four ids, and gives the child's whole encoding as that
-- part of the message; a missing child or malformed path or message gives the empty part."
use Rattle.std.specs.Prelude.{List, [], ℕ}
use Rattle.tree_forest.specs.Forest.{end, tree, node_of, Lookup, absent, present}
use Rattle.tree_forest.specs.Path.{Path, read}
use Rattle.scalar.specs.Value.{Value}
use Rattle.basics.specs.Choice.{pick}
use Rattle.tree.specs.Encode.{encode}
use Rattle.tree.specs.Decode.{decode_message}
use Rattle.tree.specs.Ids.{is_path, path_from_ids, last_id}

-- "the child's whole encoding": that of what was found, under its id; "a missing child .. gives the empty part".
abbrev pub encode_found : ℕ → Lookup Value → List ℕ
encode_found i absent = []
encode_found i (present t) = encode (node_of i t end)

-- The encoding of the child at the path of a tree; a "malformed .. message gives the empty part".
abbrev pub child_bytes : Path → Lookup Value → List ℕ
child_bytes x absent = []
child_bytes x (present (tree a ks)) = encode_found (last_id x) (read x ks)

-- The reader's answer to the bytes of a message and four ids.
unfoldable pub part_of : List ℕ → List ℕ → List ℕ
part_of s ids = pick (is_path ids) (child_bytes (path_from_ids ids) (decode_message s)) []
