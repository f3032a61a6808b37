-- The message reader's answer as numbers: where its part starts in the message and how long it is. 01: the reader "gives the child's whole
-- encoding as that part of the message; a missing child or malformed path or message gives the empty part."
use Rattle.std.specs.Prelude.{List, [], ◌∷◌, ℕ, ◌+◌, length, ltb}
use Rattle.tree_forest.specs.Forest.{Forest, end, node, tree, Lookup, absent, present, find, children_of}
use Rattle.tree_forest.specs.Path.{Path, path, read}
use Rattle.scalar.specs.Value.{Value, value}
use Rattle.basics.specs.Choice.{pick}
use Rattle.tree.specs.Encode.{encode}
use Rattle.tree.specs.Decode.{decode_message}
use Rattle.tree.specs.Ids.{is_path, path_from_ids}
use Rattle.tree_part.specs.Part.{part_of}
use Rattle.tree_part.specs.declared.Span.{Span}

-- How many bytes the siblings before the id i take: "ids rising strictly", so those with smaller ids, each with its whole encoding.
unfoldable pub earlier : ℕ → Forest Value → ℕ
earlier i end = 0
earlier i (node j a ks rest) = pick (ltb j i) (length (encode (node j a ks end)) + earlier i rest) 0

-- How many bytes a node takes before its children: "id u16 .., basic u8, child count u8, length u8, value, then its children".
abbrev pub header_size : Lookup Value → ℕ
header_size absent = 0
header_size (present (tree (value b v) ks)) = 5 + length v

-- How many bytes stand between the start of a node and the start of what the steps below it lead to.
unfoldable pub offset : List ℕ → Lookup Value → ℕ
offset [] l = 0
offset (i ∷ is) l = header_size l + (earlier i (children_of l) + offset is (find i (children_of l)))

-- Where what was found starts; 0 where nothing was.
abbrev pub start_found : ℕ → Lookup Value → ℕ
start_found p absent = 0
start_found p (present t) = p

-- Where the child at the path starts in the bytes of a tree, whose root starts at 0; 0 where "a missing child .. gives the empty part".
abbrev pub child_start : Path → Lookup Value → ℕ
child_start x absent = 0
child_start (path i is) (present (tree a ks)) = start_found (offset (i ∷ is) (present (tree a ks))) (read (path i is) ks)

-- The reader's part of the message s, for four ids: its start and its length, both 0 for the empty part.
unfoldable pub span_of : List ℕ → List ℕ → Span
span_of s ids =
    record { start = pick (is_path ids) (child_start (path_from_ids ids) (decode_message s)) 0; len = length (part_of s ids) }
