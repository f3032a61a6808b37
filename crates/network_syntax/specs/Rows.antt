-- The rows of a behaviour, views of a row by what it does, and the entries of lists by row. Row numbers are labels: rules never look at
-- them, progress and places of refusals do.
use Rattle.std.specs.Prelude.{List, [], ◌∷◌, Bool, true, false, ◌||◌, ℕ, zero, suc, eqb}
use Rattle.tree_forest.specs.Path.{Path}
use Rattle.network_syntax.specs.Syntax.{Expression, Direction, input, output, Operation, Optional, none, some, Behaviour, nil, one_way}
use Rattle.network_syntax.specs.Syntax.{request_response, notification, solicit_response, if_then_else, while_do, sequence, parallel, assign, choice}
use Rattle.network_syntax.specs.Syntax.{waiting, answering, Branches, last_branch, branch}

-- The number of the row that a behaviour stands for.
unfoldable pub row_of : Behaviour → ℕ
row_of (nil r) = r
row_of (one_way r o x) = r
row_of (request_response r o x c d) = r
row_of (notification r o e) = r
row_of (solicit_response r o e x) = r
row_of (if_then_else r e a b) = r
row_of (while_do r e b) = r
row_of (sequence r a b) = r
row_of (parallel r a b) = r
row_of (assign r x e) = r
row_of (choice r m) = r
row_of (waiting r o x) = r
row_of (answering r o c d) = r

unfoldable mutual
  -- Is the row i the behaviour's own or that of a part of it?
  pub has_row : ℕ → Behaviour → Bool
  has_row i (nil r) = eqb i r
  has_row i (one_way r o x) = eqb i r
  has_row i (request_response r o x c d) = eqb i r || has_row i d
  has_row i (notification r o e) = eqb i r
  has_row i (solicit_response r o e x) = eqb i r
  has_row i (if_then_else r e a b) = eqb i r || (has_row i a || has_row i b)
  has_row i (while_do r e b) = eqb i r || has_row i b
  has_row i (sequence r a b) = eqb i r || (has_row i a || has_row i b)
  has_row i (parallel r a b) = eqb i r || (has_row i a || has_row i b)
  has_row i (assign r x e) = eqb i r
  has_row i (choice r m) = eqb i r || has_row_in i m
  has_row i (waiting r o x) = eqb i r
  has_row i (answering r o c d) = eqb i r || has_row i d

  -- Is the row i that of a branch or of a part of one?
  pub has_row_in : ℕ → Branches → Bool
  has_row_in i (last_branch r a b) = eqb i r || (has_row i a || has_row i b)
  has_row_in i (branch r a b m) = eqb i r || ((has_row i a || has_row i b) || has_row_in i m)

abbrev pub or_else_some : Optional Behaviour → Optional Behaviour → Optional Behaviour
or_else_some none other = other
or_else_some (some b) other = some b

abbrev pub itself : Bool → Behaviour → Optional Behaviour → Optional Behaviour
itself true b otherwise = some b
itself false b otherwise = otherwise

unfoldable mutual
  -- The behaviour of the row i, wherever it stands. A branch's own row has none.
  pub at_row : ℕ → Behaviour → Optional Behaviour
  at_row i (nil r) = itself (eqb i r) (nil r) none
  at_row i (one_way r o x) = itself (eqb i r) (one_way r o x) none
  at_row i (request_response r o x c d) = itself (eqb i r) (request_response r o x c d) (at_row i d)
  at_row i (notification r o e) = itself (eqb i r) (notification r o e) none
  at_row i (solicit_response r o e x) = itself (eqb i r) (solicit_response r o e x) none
  at_row i (if_then_else r e a b) = itself (eqb i r) (if_then_else r e a b) (or_else_some (at_row i a) (at_row i b))
  at_row i (while_do r e b) = itself (eqb i r) (while_do r e b) (at_row i b)
  at_row i (sequence r a b) = itself (eqb i r) (sequence r a b) (or_else_some (at_row i a) (at_row i b))
  at_row i (parallel r a b) = itself (eqb i r) (parallel r a b) (or_else_some (at_row i a) (at_row i b))
  at_row i (assign r x e) = itself (eqb i r) (assign r x e) none
  at_row i (choice r m) = itself (eqb i r) (choice r m) (at_row_in i m)
  at_row i (waiting r o x) = itself (eqb i r) (waiting r o x) none
  at_row i (answering r o c d) = itself (eqb i r) (answering r o c d) (at_row i d)

  pub at_row_in : ℕ → Branches → Optional Behaviour
  at_row_in i (last_branch r a b) = or_else_some (at_row i a) (at_row i b)
  at_row_in i (branch r a b m) = or_else_some (or_else_some (at_row i a) (at_row i b)) (at_row_in i m)

-- ---- views: what a row is that receives, sends, moves by itself or offers branches

-- How a request is answered. 01, B: "2 request-response (.., reply path c, body d)".
pub record Response : Type 0 where
  pub path : Path
  pub body : Behaviour

-- An input: "1 one-way (operation a, path b); 2 request-response (operation a, into b, ..)". A two-way one has a response.
pub record Input : Type 0 where
  pub row : ℕ
  pub operation : Operation
  pub into : Path
  pub response : Optional Response

-- An output: "3 notification (operation a, expression b); 4 solicit-response (a, b, into c)". A two-way one puts its reply into a path.
pub record Output : Type 0 where
  pub row : ℕ
  pub operation : Operation
  pub message : Expression
  pub into : Optional Path

-- What a local move makes: "a ready assign, if or while".
pub data Local : Type 0 where
  assigns : ℕ → Path → Expression → Local
  decides : ℕ → Expression → Behaviour → Behaviour → Local
  repeats : ℕ → Expression → Behaviour → Local

pub record Choice : Type 0 where
  pub row : ℕ
  pub branches : Branches

abbrev pub is_there : {A : Type 0} → Optional A → Bool
is_there none = false
is_there (some a) = true

-- "two-way u8": with a response, or with a path for the reply.
abbrev pub two_way_input : Input → Bool
two_way_input i = is_there i.response

abbrev pub two_way_output : Output → Bool
two_way_output u = is_there u.into

-- A row by what it does: it receives, sends, moves by itself or offers branches, or none of these.
pub data View : Type 0 where
  receives : Input → View
  sends : Output → View
  moves : Local → View
  offers : Choice → View
  other : View

abbrev pub view_of : Behaviour → View
view_of (nil r) = other
view_of (one_way r o x) = receives (record { row = r; operation = o; into = x; response = none })
view_of (request_response r o x c d) =
    receives (record { row = r; operation = o; into = x; response = some (record { path = c; body = d }) })
view_of (notification r o e) = sends (record { row = r; operation = o; message = e; into = none })
view_of (solicit_response r o e x) = sends (record { row = r; operation = o; message = e; into = some x })
view_of (if_then_else r e a b) = moves (decides r e a b)
view_of (while_do r e b) = moves (repeats r e b)
view_of (sequence r a b) = other
view_of (parallel r a b) = other
view_of (assign r x e) = moves (assigns r x e)
view_of (choice r m) = offers (record { row = r; branches = m })
view_of (waiting r o x) = other
view_of (answering r o c d) = other

abbrev pub input_in : View → Optional Input
input_in (receives i) = some i
input_in (sends u) = none
input_in (moves l) = none
input_in (offers c) = none
input_in other = none

abbrev pub output_in : View → Optional Output
output_in (receives i) = none
output_in (sends u) = some u
output_in (moves l) = none
output_in (offers c) = none
output_in other = none

abbrev pub local_in : View → Optional Local
local_in (receives i) = none
local_in (sends u) = none
local_in (moves l) = some l
local_in (offers c) = none
local_in other = none

abbrev pub choice_in : View → Optional Choice
choice_in (receives i) = none
choice_in (sends u) = none
choice_in (moves l) = none
choice_in (offers c) = some c
choice_in other = none

-- The input, output, local row or choice that a behaviour is, if it is one.
abbrev pub input_of : Behaviour → Optional Input
input_of b = input_in (view_of b)

abbrev pub output_of : Behaviour → Optional Output
output_of b = output_in (view_of b)

abbrev pub local_of : Behaviour → Optional Local
local_of b = local_in (view_of b)

abbrev pub choice_of : Behaviour → Optional Choice
choice_of b = choice_in (view_of b)

-- The behaviour that a view is of.
abbrev pub input_from : ℕ → Operation → Path → Optional Response → Behaviour
input_from r o x none = one_way r o x
input_from r o x (some a) = request_response r o x a.path a.body

abbrev pub from_input : Input → Behaviour
from_input i = input_from i.row i.operation i.into i.response

abbrev pub output_from : ℕ → Operation → Expression → Optional Path → Behaviour
output_from r o e none = notification r o e
output_from r o e (some x) = solicit_response r o e x

abbrev pub from_output : Output → Behaviour
from_output u = output_from u.row u.operation u.message u.into

abbrev pub from_local : Local → Behaviour
from_local (assigns r x e) = assign r x e
from_local (decides r e a b) = if_then_else r e a b
from_local (repeats r e b) = while_do r e b

abbrev pub from_choice : Choice → Behaviour
from_choice c = choice c.row c.branches

-- Entry number n of a list, counted from 0: of the services or operations, the one of row n.
unfoldable pub entry : {A : Type 0} → ℕ → List A → Optional A
entry n [] = none
entry zero (a ∷ l) = some a
entry (suc n) (a ∷ l) = entry n l

abbrev pub is_input_operation : Direction → Bool
is_input_operation input = true
is_input_operation output = false
