-- Decoding: reading the byte form of a tree from the front, with the limits as parameters. `decode` is total; EncodeLaws and DecodeLaws
-- prove that it gives the tree of every byte form, and nothing for any other bytes.
use Rattle.std.specs.Prelude.{List, Bool, true, false, ◌&&◌, ℕ, zero, suc, ◌+◌, ◌-◌, length, get_or, take, drop, eqb, leb, ltb}
use Rattle.wire.specs.Wire.{u16_at}
use Rattle.tree_forest.specs.Forest.{is_present}
use Rattle.tree_forest.specs.Forest.{Forest, end, node, tree, Lookup, absent, present}
use Rattle.scalar.specs.Value.{Value, value, is_value}
use Rattle.basics.specs.Choice.{pick}
use Rattle.scalar.specs.Basic.{void}
use Rattle.tree_forest.specs.Limits.{message_levels_below, message_nodes_below, session_levels, session_nodes}
use Rattle.tree.specs.declared.Head.{Head}
use Rattle.std.specs.Prelude.{Option, Some, None}

-- The fields of a node that starts at `at`: "id u16 .., basic u8, child count u8, length u8, value, then its children".
abbrev pub id_at : List ℕ → ℕ → ℕ
id_at s at = u16_at s at

abbrev pub basic_at : List ℕ → ℕ → ℕ
basic_at s at = get_or s (at + 2) 0

abbrev pub count_at : List ℕ → ℕ → ℕ
count_at s at = get_or s (at + 3) 0

abbrev pub len_at : List ℕ → ℕ → ℕ
len_at s at = get_or s (at + 4) 0

abbrev pub value_at : List ℕ → ℕ → List ℕ
value_at s at = take (len_at s at) (drop (at + 5) s)

abbrev pub next_at : List ℕ → ℕ → ℕ
next_at s at = at + 5 + len_at s at

-- The header and the value lie within s, and the value is one of its basic type.
unfoldable pub head_ok : List ℕ → ℕ → Bool
head_ok s at = leb (at + 5) (length s) && (leb (next_at s at) (length s) && is_value (basic_at s at) (value_at s at))

abbrev pub header : ℕ → ℕ → ℕ → ℕ → Head
header i b c m = record { id = i; basic = b; count = c; start = m }

-- The header of the node at `at`: id, basic type, child count and where the children start; or a fault.
unfoldable pub head_at : List ℕ → ℕ → Option Head
head_at s at = pick (head_ok s at) (Some (header (id_at s at) (basic_at s at) (count_at s at) (next_at s at))) None

-- What reading siblings gives: the forest, the position past it and how many more nodes are allowed; or nothing.
pub data Parse : Type 0 where
  bad : Parse
  past : Forest Value → ℕ → ℕ → Parse

abbrev pub test : Bool → Parse → Parse
test true p = p
test false p = bad

abbrev pub then_parse : Parse → (Forest Value → ℕ → ℕ → Parse) → Parse
then_parse bad k = bad
then_parse (past f e l) k = k f e l

abbrev pub join : ℕ → Value → Forest Value → Parse → Parse
join i a ks bad = bad
join i a ks (past rest e l) = past (node i a ks rest) e l

-- n siblings at `at`, with ids above `last` and of at most `left` nodes; `below` reads their children.
unfoldable pub parse_siblings : List ℕ → (ℕ → ℕ → ℕ → ℕ → Parse) → ℕ → ℕ → ℕ → ℕ → Parse
parse_siblings s below zero last left at = past end at left
parse_siblings s below (suc n) last left at =
    test (ltb 0 left)
    (test (head_ok s at)
    (test (ltb last (id_at s at))
    (then_parse (below (count_at s at) 0 (left - 1) (next_at s at))
    (λ ks mid left'.
    join (id_at s at) (value (basic_at s at) (value_at s at)) ks (parse_siblings s below n (id_at s at) left' mid)))))

abbrev pub childless : ℕ → ℕ → ℕ → ℕ → Parse
childless zero last left at = past end at left
childless (suc n) last left at = bad

-- n siblings of at most d levels: the limit of levels is the recursion.
unfoldable pub parse : List ℕ → ℕ → ℕ → ℕ → ℕ → ℕ → Parse
parse s zero = childless
parse s (suc d) = parse_siblings s (parse s d)

-- The same without the forest, as the code answers it.
abbrev pub erase : Parse → Option (ℕ × ℕ)
erase bad = None
erase (past f e l) = Some (e, l)

unfoldable pub scan : List ℕ → ℕ → ℕ → ℕ → ℕ → ℕ → Option (ℕ × ℕ)
scan s d n last left at = erase (parse s d n last left at)

-- The tree, if all of s was read: "nothing after it".
abbrev pub whole_of : List ℕ → Parse → Lookup Value
whole_of s bad = absent
whole_of s (past ks e l) = pick (eqb e (length s)) (present (tree (value (basic_at s 0) (value_at s 0)) ks)) absent

-- The tree of at most `deep` levels and `many` nodes below its root whose byte form s is, or none.
unfoldable pub decode : ℕ → ℕ → List ℕ → Lookup Value
decode deep many s =
    whole_of s (test (head_ok s 0) (test (eqb (id_at s 0) 0) (parse s deep (count_at s 0) 0 many (next_at s 0))))

-- Are the bytes a tree within the limits?
abbrev pub is_tree : ℕ → ℕ → List ℕ → Bool
is_tree deep many s = is_present (decode deep many s)

-- The tree whose message the bytes are.
abbrev pub decode_message : List ℕ → Lookup Value
decode_message s = decode message_levels_below message_nodes_below s

abbrev pub is_message : List ℕ → Bool
is_message s = is_tree message_levels_below message_nodes_below s

-- 01: "An environment Γ is a tree under an empty root"; so is a session's tree.
abbrev pub empty_root : Lookup Value → Bool
empty_root absent = false
empty_root (present (tree (value b v) ks)) = eqb b void

-- Are the bytes a session's tree: "48 nodes", "6 levels", below an empty root?
unfoldable pub is_session_tree : List ℕ → Bool
is_session_tree s = empty_root (decode session_levels session_nodes s)
