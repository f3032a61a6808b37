-- The abstract syntax of a network: types, paths, expressions, behaviours, operations and services, with every link
-- resolved. Rows of the file become these once; row numbers stay only as labels, for places of refusals and for progress.
use Rattle.std.specs.Prelude.{Bool, List, ℕ}
use Rattle.tree_forest.specs.Forest.{Forest, Tree}
use Rattle.tree_forest.specs.Path.{Path}
use Rattle.scalar.specs.Value.{Value}

-- What a node of a type carries: whether its edge is mandatory, and its basic type.
-- 01, T: "cardinality u8 (0 is [0,1], optional; 1 is [1,1]), basic u8".
pub data Mark : Type 0 where
  mark : Bool → ℕ → Mark

abbrev pub mandatory : Mark → Bool
mandatory (mark m b) = m

abbrev pub basic : Mark → ℕ
basic (mark m b) = b

-- Sibling types: the children of a type; also an environment Γ, "a tree under an empty root", whose root is not written.
abbrev pub Types : Type 0
Types = Forest Mark

-- A message type. The root's own mark is mandatory and never looked at.
abbrev pub MessageType : Type 0
MessageType = Tree Mark

-- 01, E: "3 not, 4 negate".
pub data Unary : Type 0 where
  logical_not negate : Unary

-- 01, E: "5 add, 6 subtract, 7 less, 8 equal, 9 and".
pub data Binary : Type 0 where
  add subtract less equal logical_and : Binary

-- 01, E: "0 constant .., 1 path a, 2 is path a present", then the operators.
pub data Expression : Type 0 where
  constant : Value → Expression
  value_at : Path → Expression
  presence : Path → Expression
  unary : Unary → Expression → Expression
  binary : Binary → Expression → Expression → Expression

-- 01, O: "direction u8 (0 in, 1 out)".
pub data Direction : Type 0 where
  input output : Direction

-- 01, O. The row is the O row's number; the reply type of a one-way operation is never looked at.
pub record Operation : Type 0 where
  pub row : ℕ
  pub service : ℕ
  pub direction : Direction
  pub two_way : Bool
  pub id : ℕ
  pub location : ℕ
  pub request : MessageType
  pub reply : MessageType

mutual
  -- 01, B. The first field of each is its row's number. The last two stand only in a rest, 01's word for what remains of a behaviour:
  -- `waiting` is a solicit-response that was sent, `answering` a request-response that was received.
  pub data Behaviour : Type 0 where
    nil : ℕ → Behaviour
    one_way : ℕ → Operation → Path → Behaviour
    request_response : ℕ → Operation → Path → Path → Behaviour → Behaviour
    notification : ℕ → Operation → Expression → Behaviour
    solicit_response : ℕ → Operation → Expression → Path → Behaviour
    if_then_else : ℕ → Expression → Behaviour → Behaviour → Behaviour
    while_do : ℕ → Expression → Behaviour → Behaviour
    sequence : ℕ → Behaviour → Behaviour → Behaviour
    parallel : ℕ → Behaviour → Behaviour → Behaviour
    assign : ℕ → Path → Expression → Behaviour
    choice : ℕ → Branches → Behaviour
    waiting : ℕ → Operation → Path → Behaviour
    answering : ℕ → Operation → Path → Behaviour → Behaviour

  -- The branches of a choice, at least one: a branch's row, its input, what follows it "as in a sequence", and the branches after it.
  pub data Branches : Type 0 where
    last_branch : ℕ → Behaviour → Behaviour → Branches
    branch : ℕ → Behaviour → Behaviour → Branches → Branches

pub data Optional (A : Type 0) : Type 0 where
  none : Optional A
  some : A → Optional A

-- 01, S: "location u16 ..; starter row (a choice), client row, 65535 for none". 02: "The last field of a service row becomes a key id, 0
-- for none."
pub record Service : Type 0 where
  pub location : ℕ
  pub starter : Optional Behaviour
  pub client : Optional Behaviour
  pub key : ℕ

pub record Network : Type 0 where
  pub services : List Service
  pub operations : List Operation
