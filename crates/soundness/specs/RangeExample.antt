-- An example of results outside their width, 02's two refusals that replace 01's case h: a file of one service, at location 1, whose client
-- assigns 2147483647 + 1 to 5 and, in parallel, the opposite of -2147483648 to 6.
use Rattle.std.specs.Prelude.{List, [], ◌∷◌, ◌++◌, ℕ}
use Rattle.move_rules.specs.Moves.{local}
use Rattle.soundness.specs.Property3.{Turn}
use Rattle.soundness.specs.Example.{inside}

-- P: 5, 6.
abbrev paths : List ℕ
paths =
    5 ∷ 0 ∷ 0 ∷ 0 ∷ 0 ∷ 0 ∷ 0 ∷ 0 ∷
    6 ∷ 0 ∷ 0 ∷ 0 ∷ 0 ∷ 0 ∷ 0 ∷ 0 ∷ []

-- E: int 2147483647; int 1; their sum; int -2147483648; its opposite.
abbrev expressions : List ℕ
expressions =
    0 ∷ 1 ∷ 0 ∷ 0 ∷ 4 ∷ 0 ∷ 0 ∷ 0 ∷
    0 ∷ 1 ∷ 4 ∷ 0 ∷ 4 ∷ 0 ∷ 0 ∷ 0 ∷
    5 ∷ 0 ∷ 0 ∷ 0 ∷ 1 ∷ 0 ∷ 0 ∷ 0 ∷
    0 ∷ 1 ∷ 8 ∷ 0 ∷ 4 ∷ 0 ∷ 0 ∷ 0 ∷
    4 ∷ 0 ∷ 3 ∷ 0 ∷ 0 ∷ 0 ∷ 0 ∷ 0 ∷ []

-- B: rows 0 to 2 the client.
abbrev behaviours : List ℕ
behaviours =
    8 ∷ 0 ∷ 1 ∷ 0 ∷ 2 ∷ 0 ∷ 0 ∷ 0 ∷ 0 ∷ 0 ∷
    9 ∷ 0 ∷ 0 ∷ 0 ∷ 2 ∷ 0 ∷ 0 ∷ 0 ∷ 0 ∷ 0 ∷
    9 ∷ 0 ∷ 1 ∷ 0 ∷ 4 ∷ 0 ∷ 0 ∷ 0 ∷ 0 ∷ 0 ∷ []

-- S: a client alone.
abbrev services : List ℕ
services = 1 ∷ 0 ∷ 255 ∷ 255 ∷ 0 ∷ 0 ∷ 0 ∷ 0 ∷ []

-- D: the four bytes of each constant. The trailer: each section's start and count; T and O are empty.
abbrev data_and_trailer : List ℕ
data_and_trailer =
    255 ∷ 255 ∷ 255 ∷ 127 ∷
    1 ∷ 0 ∷ 0 ∷ 0 ∷
    0 ∷ 0 ∷ 0 ∷ 128 ∷
    0 ∷ 0 ∷ 2 ∷ 0 ∷
    16 ∷ 0 ∷ 0 ∷ 0 ∷
    16 ∷ 0 ∷ 5 ∷ 0 ∷
    56 ∷ 0 ∷ 3 ∷ 0 ∷
    86 ∷ 0 ∷ 0 ∷ 0 ∷
    86 ∷ 0 ∷ 1 ∷ 0 ∷
    94 ∷ 0 ∷ 12 ∷ 0 ∷ []

-- The file, 134 bytes.
abbrev pub range_file : List ℕ
range_file = paths ++ (expressions ++ (behaviours ++ (services ++ data_and_trailer)))

-- The client assigns the sum, and the opposite: each as the first move.
abbrev pub assigns_sum : List Turn
assigns_sum = inside (local 0 0 1) ∷ []

abbrev pub assigns_opposite : List Turn
assigns_opposite = inside (local 0 0 2) ∷ []
