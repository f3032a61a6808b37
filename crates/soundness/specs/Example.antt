-- An example: a file of two services and what its moves give. Service 0, at location 1, has a client that assigns int 3 to 5, sends it to
-- location 2 and takes the reply into 6. Service 1, at location 2, has a starter: a request-response into 5, whose body assigns 5 + 5 to 5
-- and whose reply is 5; then a one-way of a void with a mandatory int child 1, into 9.
use Rattle.std.specs.Prelude.{List, [], ◌∷◌, ◌++◌, ℕ}
use Rattle.state.specs.Places.{out_room}
use Rattle.state.specs.Bytes.{zeros}
use Rattle.soundness.specs.Property3.{Turn}
use Rattle.move_rules.specs.Moves.{Move, local, receive, send, reply, outer_message, close, move}

-- P: 5, 6, 9.
abbrev paths : List ℕ
paths =
    5 ∷ 0 ∷ 0 ∷ 0 ∷ 0 ∷ 0 ∷ 0 ∷ 0 ∷
    6 ∷ 0 ∷ 0 ∷ 0 ∷ 0 ∷ 0 ∷ 0 ∷ 0 ∷
    9 ∷ 0 ∷ 0 ∷ 0 ∷ 0 ∷ 0 ∷ 0 ∷ 0 ∷ []

-- T: int; void with a mandatory int child 1; that child.
abbrev types : List ℕ
types =
    0 ∷ 0 ∷ 1 ∷ 1 ∷ 0 ∷ 0 ∷ 0 ∷ 0 ∷
    0 ∷ 0 ∷ 1 ∷ 6 ∷ 2 ∷ 0 ∷ 1 ∷ 0 ∷
    1 ∷ 0 ∷ 1 ∷ 1 ∷ 0 ∷ 0 ∷ 0 ∷ 0 ∷ []

-- E: int 3; path 5; 5 + 5.
abbrev expressions : List ℕ
expressions =
    0 ∷ 1 ∷ 0 ∷ 0 ∷ 4 ∷ 0 ∷ 0 ∷ 0 ∷
    1 ∷ 0 ∷ 0 ∷ 0 ∷ 0 ∷ 0 ∷ 0 ∷ 0 ∷
    5 ∷ 0 ∷ 1 ∷ 0 ∷ 1 ∷ 0 ∷ 0 ∷ 0 ∷ []

-- B: rows 0 to 2 the client, rows 3 to 7 the starter.
abbrev behaviours : List ℕ
behaviours =
    7 ∷ 0 ∷ 1 ∷ 0 ∷ 2 ∷ 0 ∷ 0 ∷ 0 ∷ 0 ∷ 0 ∷
    9 ∷ 0 ∷ 0 ∷ 0 ∷ 0 ∷ 0 ∷ 0 ∷ 0 ∷ 0 ∷ 0 ∷
    4 ∷ 0 ∷ 0 ∷ 0 ∷ 1 ∷ 0 ∷ 1 ∷ 0 ∷ 0 ∷ 0 ∷
    10 ∷ 0 ∷ 4 ∷ 0 ∷ 1 ∷ 0 ∷ 0 ∷ 0 ∷ 0 ∷ 0 ∷
    11 ∷ 0 ∷ 5 ∷ 0 ∷ 7 ∷ 0 ∷ 0 ∷ 0 ∷ 0 ∷ 0 ∷
    2 ∷ 0 ∷ 1 ∷ 0 ∷ 0 ∷ 0 ∷ 0 ∷ 0 ∷ 6 ∷ 0 ∷
    9 ∷ 0 ∷ 0 ∷ 0 ∷ 2 ∷ 0 ∷ 0 ∷ 0 ∷ 0 ∷ 0 ∷
    1 ∷ 0 ∷ 2 ∷ 0 ∷ 2 ∷ 0 ∷ 0 ∷ 0 ∷ 0 ∷ 0 ∷ []

-- O: an output with id 7 to location 2; the input it meets; an input with id 8.
abbrev operations : List ℕ
operations =
    0 ∷ 1 ∷ 1 ∷ 0 ∷ 7 ∷ 0 ∷ 2 ∷ 0 ∷ 0 ∷ 0 ∷ 0 ∷ 0 ∷
    1 ∷ 0 ∷ 1 ∷ 0 ∷ 7 ∷ 0 ∷ 0 ∷ 0 ∷ 0 ∷ 0 ∷ 0 ∷ 0 ∷
    1 ∷ 0 ∷ 0 ∷ 0 ∷ 8 ∷ 0 ∷ 0 ∷ 0 ∷ 1 ∷ 0 ∷ 0 ∷ 0 ∷ []

-- S: a client alone; a starter alone.
abbrev services : List ℕ
services =
    1 ∷ 0 ∷ 255 ∷ 255 ∷ 0 ∷ 0 ∷ 0 ∷ 0 ∷
    2 ∷ 0 ∷ 3 ∷ 0 ∷ 255 ∷ 255 ∷ 0 ∷ 0 ∷ []

-- D: the four bytes of int 3. The trailer: each section's start and count.
abbrev data_and_trailer : List ℕ
data_and_trailer =
    3 ∷ 0 ∷ 0 ∷ 0 ∷
    0 ∷ 0 ∷ 3 ∷ 0 ∷
    24 ∷ 0 ∷ 3 ∷ 0 ∷
    48 ∷ 0 ∷ 3 ∷ 0 ∷
    72 ∷ 0 ∷ 8 ∷ 0 ∷
    152 ∷ 0 ∷ 3 ∷ 0 ∷
    188 ∷ 0 ∷ 2 ∷ 0 ∷
    204 ∷ 0 ∷ 4 ∷ 0 ∷ []

-- The file, 236 bytes.
abbrev pub file : List ℕ
file = paths ++ (types ++ (expressions ++ (behaviours ++ (operations ++ (services ++ data_and_trailer)))))

-- A message for the input with id 8: void, with an int child 1.
abbrev pub with_child : List ℕ
with_child = 0 ∷ 0 ∷ 6 ∷ 1 ∷ 0 ∷ 1 ∷ 0 ∷ 1 ∷ 0 ∷ 4 ∷ 42 ∷ 0 ∷ 0 ∷ 0 ∷ []

-- The same without its mandatory child.
abbrev pub without_child : List ℕ
without_child = 0 ∷ 0 ∷ 6 ∷ 0 ∷ 0 ∷ []

-- An out buffer that just has its room.
abbrev pub room : List ℕ
room = zeros out_room

-- A move without outside bytes.
abbrev pub inside : Move → Turn
inside m = record { move = m; bytes = []; out = room }

-- An outsider's message to that session.
abbrev pub outsider_sends : List ℕ → Turn
outsider_sends bytes = record { move = outer_message 1 8 1 0; bytes = bytes; out = room }

-- The client assigns, and sends: session 1 of service 1 starts.
abbrev pub asks : List Turn
asks = inside (local 0 0 1) ∷ inside (send 0 0 2 1) ∷ []

-- That session works out its body and replies; the client is done and closes; the session takes a queued message, and closes.
abbrev pub answer_turns : List Turn
answer_turns =
    inside (local 1 1 6) ∷ inside (reply 1 1 5) ∷ inside (close 0 0) ∷ outsider_sends with_child ∷ inside (receive 1 1 7) ∷
    inside (close 1 1) ∷ []

-- Five messages to that session, one after another.
abbrev pub five : List Turn
five = outsider_sends with_child ∷ outsider_sends with_child ∷ outsider_sends with_child ∷ outsider_sends with_child ∷ outsider_sends with_child ∷ []
