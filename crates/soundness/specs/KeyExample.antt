-- An example of a keyed service: a file of one service, at location 1, with the key id 7. Its starter takes a message of the input 9, a void with
-- an int child 7, into 5, and then another.
use Rattle.std.specs.Prelude.{List, [], ◌∷◌, ◌++◌, ℕ}
use Rattle.move_rules.specs.Moves.{outer_message}
use Rattle.soundness.specs.Property3.{Turn}
use Rattle.soundness.specs.Example.{room}

-- P: 5. T: a void; its child 7, a mandatory int.
abbrev paths_and_types : List ℕ
paths_and_types =
    5 ∷ 0 ∷ 0 ∷ 0 ∷ 0 ∷ 0 ∷ 0 ∷ 0 ∷
    0 ∷ 0 ∷ 1 ∷ 6 ∷ 1 ∷ 0 ∷ 1 ∷ 0 ∷
    7 ∷ 0 ∷ 1 ∷ 1 ∷ 0 ∷ 0 ∷ 0 ∷ 0 ∷ []

-- B: the starter, its branch, the branch's input, and what follows.
abbrev behaviours : List ℕ
behaviours =
    10 ∷ 0 ∷ 1 ∷ 0 ∷ 1 ∷ 0 ∷ 0 ∷ 0 ∷ 0 ∷ 0 ∷
    11 ∷ 0 ∷ 2 ∷ 0 ∷ 3 ∷ 0 ∷ 0 ∷ 0 ∷ 0 ∷ 0 ∷
    1 ∷ 0 ∷ 0 ∷ 0 ∷ 0 ∷ 0 ∷ 0 ∷ 0 ∷ 0 ∷ 0 ∷
    1 ∷ 0 ∷ 0 ∷ 0 ∷ 0 ∷ 0 ∷ 0 ∷ 0 ∷ 0 ∷ 0 ∷ []

-- O: the input 9, one-way. S: a starter alone, keyed by 7. The trailer: each section's start and count; E and D are empty.
abbrev operations_and_rest : List ℕ
operations_and_rest =
    0 ∷ 0 ∷ 0 ∷ 0 ∷ 9 ∷ 0 ∷ 0 ∷ 0 ∷ 0 ∷ 0 ∷ 0 ∷ 0 ∷
    1 ∷ 0 ∷ 0 ∷ 0 ∷ 255 ∷ 255 ∷ 7 ∷ 0 ∷
    0 ∷ 0 ∷ 1 ∷ 0 ∷
    8 ∷ 0 ∷ 2 ∷ 0 ∷
    24 ∷ 0 ∷ 0 ∷ 0 ∷
    24 ∷ 0 ∷ 4 ∷ 0 ∷
    64 ∷ 0 ∷ 1 ∷ 0 ∷
    76 ∷ 0 ∷ 1 ∷ 0 ∷
    84 ∷ 0 ∷ 0 ∷ 0 ∷ []

-- The file, 112 bytes.
abbrev pub keyed_file : List ℕ
keyed_file = paths_and_types ++ (behaviours ++ operations_and_rest)

-- An outsider's message with the key x, to that session.
abbrev pub lifts : ℕ → ℕ → Turn
lifts x session =
    record {
      move = outer_message 0 9 session 0;
      bytes = 0 ∷ 0 ∷ 6 ∷ 1 ∷ 0 ∷ 7 ∷ 0 ∷ 1 ∷ 0 ∷ 4 ∷ x ∷ 0 ∷ 0 ∷ 0 ∷ [];
      out = room;
    }

-- The key 1 starts session 1; it starts no other session, and 2 does not go to session 1; 2 starts session 2; another message of 1 is queued.
abbrev pub by_key : List Turn
by_key = lifts 1 1 ∷ lifts 1 2 ∷ lifts 2 1 ∷ lifts 2 2 ∷ lifts 1 1 ∷ []
