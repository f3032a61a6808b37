-- T rows as types. 01, T: "id u16, cardinality u8 .., basic u8 .., first child u16, child count u16. Children are consecutive later rows".
-- Subtyping goes from a row to later rows only, so it ends on any bytes.
use Rattle.std.specs.Prelude.{List, Bool, ℕ, ◌+◌, eqb, ltb, Option, Some, None}
use Rattle.basics.specs.Choice.{pick}
use Rattle.network_syntax.specs.Syntax.{Types}
use Rattle.network.specs.Layout.{type_count}
use Rattle.network.specs.Rows.{type_id, cardinality, type_basic, first_child, child_count}
use Rattle.network.specs.Decode.{siblings, type_of}
use Rattle.check_types.specs.declared.Line.{Line}

-- The n rows from r on as sibling types.
abbrev pub row_types : List ℕ → ℕ → ℕ → Types
row_types file r n = siblings file (type_of file) r n

abbrev pub row_line : ℕ → Bool → ℕ → ℕ → ℕ → ℕ → Line
row_line i m b f c n = record { id = i; mandatory = m; basic = b; first = f; count = c; next = n }

-- Row r with its children's first row and their count, and the row after it.
abbrev pub line_with : List ℕ → ℕ → ℕ → ℕ → Option Line
line_with file r first n = Some (row_line (type_id file r) (eqb (cardinality file r) 1) (type_basic file r) first n (r + 1))

-- Row r, if it is a row of the section and its children are later rows; a row without children has an empty run from the next row on.
unfoldable pub line_of : List ℕ → ℕ → Option Line
line_of file r =
    pick (ltb r (type_count file))
    (pick (eqb (child_count file r) 0) (line_with file r (r + 1) 0)
    (pick (ltb r (first_child file r)) (line_with file r (first_child file r) (child_count file r)) None))
    None
