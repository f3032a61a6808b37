-- What the format promises of syntax: the limits and orders of 01's "Network file", said of paths, types, expressions,
-- operations and behaviours. DecodeLaws and BehaviourLaws prove that the rows of a file that none of 2 to 5 refuses become such.
use Rattle.std.specs.Prelude.{ℕ, suc, ◌+◌, ◌<◌, ◌≤◌, max, ◌≡◌, List, [], ◌∷◌, Bool, true, length, T}
use Rattle.tree_forest.specs.Forest.{end, node, Tree, tree, RisingTree, nodes, levels}
use Rattle.tree_forest.specs.Path.{Path, path}
use Rattle.scalar.specs.Basic.{last_basic}
use Rattle.scalar.specs.Value.{is_value, basic_of, bytes_of}
use Rattle.network_syntax.specs.Syntax.{Mark, mandatory, basic, Types, MessageType, Expression, constant, value_at, presence, unary}
use Rattle.network_syntax.specs.Syntax.{binary, Direction, input, output, Operation, Behaviour, nil, one_way, request_response, notification, solicit_response}
use Rattle.network_syntax.specs.Syntax.{if_then_else, while_do, sequence, parallel, assign, choice, waiting, answering, Branches, last_branch, branch}
use Rattle.network_syntax.specs.Syntax.{Optional, none, some, Service, Network}
use Rattle.network_syntax.specs.Rows.{has_row, has_row_in, is_there, input_of, choice_of, entry}
use Rattle.network.specs.Sizes.{type_levels, type_nodes, expression_levels}

unfoldable pub AllPositive : List ℕ → Type 0
AllPositive [] = Unit {0}
AllPositive (i ∷ is) = (0 < i) × AllPositive is

-- P: "four u16 ids; the first is not 0; after a 0 only 0": one to four ids, none of them 0.
abbrev pub PathShape : Path → Type 0
PathShape (path i is) = (0 < i) × AllPositive is × (length is ≤ 3)

-- T, below a root: ids "not 0", basic types 0 to 6.
unfoldable pub NodesShape : Types → Type 0
NodesShape end = Unit {0}
NodesShape (node i m k r) = (0 < i) × (basic m ≤ last_basic) × NodesShape k × NodesShape r

abbrev pub TreeNodesShape : Tree Mark → Type 0
TreeNodesShape (tree m k) = (basic m ≤ last_basic) × NodesShape k

-- The nodes and levels of a tree; "a row alone is one".
abbrev pub tree_nodes : Tree Mark → ℕ
tree_nodes (tree m k) = 1 + nodes k

abbrev pub tree_levels : Tree Mark → ℕ
tree_levels (tree m k) = 1 + levels k

abbrev pub root_mark : Tree Mark → Mark
root_mark (tree m k) = m

-- T: "ids rising strictly and not 0"; "at most 16 nodes and 4 levels".
pub record TypeShape (t : Tree Mark) : Type 0 where
  pub rising : RisingTree t
  pub each_node : TreeNodesShape t
  pub few_nodes : tree_nodes t ≤ type_nodes
  pub few_levels : tree_levels t ≤ type_levels

-- "A message type's root has .. cardinality 1."
pub record MessageTypeShape (t : MessageType) : Type 0 where
  pub shape : TypeShape t
  pub mandatory_root : mandatory (root_mark t) ≡ true

-- The levels of an expression; "a row alone is one".
unfoldable pub depth : Expression → ℕ
depth (constant v) = 1
depth (value_at x) = 1
depth (presence x) = 1
depth (unary o a) = suc (depth a)
depth (binary o a b) = suc (max (depth a) (depth b))

-- E: every constant is a value of its basic type, and every path has its shape.
unfoldable pub PartsShape : Expression → Type 0
PartsShape (constant v) = is_value (basic_of v) (bytes_of v) ≡ true
PartsShape (value_at x) = PathShape x
PartsShape (presence x) = PathShape x
PartsShape (unary o a) = PartsShape a
PartsShape (binary o a b) = PartsShape a × PartsShape b

-- "every E row 8 levels".
pub record ExpressionShape (e : Expression) : Type 0 where
  pub parts : PartsShape e
  pub few_levels : depth e ≤ expression_levels

-- O: "location u16 (0 for in)"; "Ids and output locations are not 0".
abbrev pub LocationShape : Direction → ℕ → Type 0
LocationShape input l = l ≡ 0
LocationShape output l = 0 < l

pub record OperationShape (o : Operation) : Type 0 where
  pub request : MessageTypeShape o.request
  pub reply : MessageTypeShape o.reply
  pub named : 0 < o.id
  pub located : LocationShape o.direction o.location

unfoldable mutual
  -- B: the operations, paths and expressions of every row of a behaviour.
  pub BehaviourShape : Behaviour → Type 0
  BehaviourShape (nil r) = Unit {0}
  BehaviourShape (one_way r o x) = OperationShape o × PathShape x
  BehaviourShape (request_response r o x y d) = OperationShape o × PathShape x × PathShape y × BehaviourShape d
  BehaviourShape (notification r o e) = OperationShape o × ExpressionShape e
  BehaviourShape (solicit_response r o e x) = OperationShape o × ExpressionShape e × PathShape x
  BehaviourShape (if_then_else r e a b) = ExpressionShape e × BehaviourShape a × BehaviourShape b
  BehaviourShape (while_do r e b) = ExpressionShape e × BehaviourShape b
  BehaviourShape (sequence r a b) = BehaviourShape a × BehaviourShape b
  BehaviourShape (parallel r a b) = BehaviourShape a × BehaviourShape b
  BehaviourShape (assign r x e) = PathShape x × ExpressionShape e
  BehaviourShape (choice r m) = BranchesShape m
  BehaviourShape (waiting r o x) = OperationShape o × PathShape x
  BehaviourShape (answering r o y d) = OperationShape o × PathShape y × BehaviourShape d

  pub BranchesShape : Branches → Type 0
  BranchesShape (last_branch r a b) = BehaviourShape a × BehaviourShape b
  BranchesShape (branch r a b m) = BehaviourShape a × BehaviourShape b × BranchesShape m

-- The row is none of the behaviour's; none of the branches'.
abbrev pub Outside : ℕ → Behaviour → Type 0
Outside r b = T (has_row r b) → ⊥

abbrev pub OutsideBranches : ℕ → Branches → Type 0
OutsideBranches r m = T (has_row_in r m) → ⊥

-- No row stands in both.
abbrev pub Apart : Behaviour → Behaviour → Type 0
Apart a b = (i : ℕ) → T (has_row i a) → T (has_row i b) → ⊥

abbrev pub ApartBranches : Behaviour → Branches → Type 0
ApartBranches a m = (i : ℕ) → T (has_row i a) → T (has_row_in i m) → ⊥

unfoldable mutual
  -- B: "Each row is used exactly once": no row stands in a behaviour at two places.
  pub EachRowOnce : Behaviour → Type 0
  EachRowOnce (nil r) = Unit {0}
  EachRowOnce (one_way r o x) = Unit {0}
  EachRowOnce (request_response r o x y d) = Outside r d × EachRowOnce d
  EachRowOnce (notification r o e) = Unit {0}
  EachRowOnce (solicit_response r o e x) = Unit {0}
  EachRowOnce (if_then_else r e a b) = Outside r a × Outside r b × Apart a b × EachRowOnce a × EachRowOnce b
  EachRowOnce (while_do r e b) = Outside r b × EachRowOnce b
  EachRowOnce (sequence r a b) = Outside r a × Outside r b × Apart a b × EachRowOnce a × EachRowOnce b
  EachRowOnce (parallel r a b) = Outside r a × Outside r b × Apart a b × EachRowOnce a × EachRowOnce b
  EachRowOnce (assign r x e) = Unit {0}
  EachRowOnce (choice r m) = OutsideBranches r m × EachBranchRowOnce m
  EachRowOnce (waiting r o x) = Unit {0}
  EachRowOnce (answering r o y d) = Outside r d × EachRowOnce d

  pub EachBranchRowOnce : Branches → Type 0
  EachBranchRowOnce (last_branch r a b) = Outside r a × Outside r b × Apart a b × EachRowOnce a × EachRowOnce b
  EachBranchRowOnce (branch r a b m) =
      Outside r a × Outside r b × Apart a b × EachRowOnce a × EachRowOnce b
      × OutsideBranches r m × ApartBranches a m × ApartBranches b m
      × EachBranchRowOnce m

-- Is it a one-way or a request-response? "branch (input row a, of kind 1 or 2, ..)".
abbrev pub is_input_behaviour : Behaviour → Bool
is_input_behaviour b = is_there (input_of b)

abbrev pub is_choice_behaviour : Behaviour → Bool
is_choice_behaviour b = is_there (choice_of b)

unfoldable mutual
  -- A behaviour as a file has it: a branch begins with an input, and nothing waits or answers yet.
  pub AsInFile : Behaviour → Type 0
  AsInFile (nil r) = Unit {0}
  AsInFile (one_way r o x) = Unit {0}
  AsInFile (request_response r o x y d) = AsInFile d
  AsInFile (notification r o e) = Unit {0}
  AsInFile (solicit_response r o e x) = Unit {0}
  AsInFile (if_then_else r e a b) = AsInFile a × AsInFile b
  AsInFile (while_do r e b) = AsInFile b
  AsInFile (sequence r a b) = AsInFile a × AsInFile b
  AsInFile (parallel r a b) = AsInFile a × AsInFile b
  AsInFile (assign r x e) = Unit {0}
  AsInFile (choice r m) = BranchesInFile m
  AsInFile (waiting r o x) = ⊥
  AsInFile (answering r o y d) = ⊥

  pub BranchesInFile : Branches → Type 0
  BranchesInFile (last_branch r a b) = T (is_input_behaviour a) × AsInFile a × AsInFile b
  BranchesInFile (branch r a b m) = T (is_input_behaviour a) × AsInFile a × AsInFile b × BranchesInFile m

unfoldable mutual
  -- Every row that has an operation has the one that f gives for it.
  pub OperationsBy : (ℕ → Operation) → Behaviour → Type 0
  OperationsBy f (nil r) = Unit {0}
  OperationsBy f (one_way r o x) = o ≡ f r
  OperationsBy f (request_response r o x y d) = (o ≡ f r) × OperationsBy f d
  OperationsBy f (notification r o e) = o ≡ f r
  OperationsBy f (solicit_response r o e x) = o ≡ f r
  OperationsBy f (if_then_else r e a b) = OperationsBy f a × OperationsBy f b
  OperationsBy f (while_do r e b) = OperationsBy f b
  OperationsBy f (sequence r a b) = OperationsBy f a × OperationsBy f b
  OperationsBy f (parallel r a b) = OperationsBy f a × OperationsBy f b
  OperationsBy f (assign r x e) = Unit {0}
  OperationsBy f (choice r m) = BranchOperationsBy f m
  OperationsBy f (waiting r o x) = o ≡ f r
  OperationsBy f (answering r o y d) = (o ≡ f r) × OperationsBy f d

  pub BranchOperationsBy : (ℕ → Operation) → Branches → Type 0
  BranchOperationsBy f (last_branch r a b) = OperationsBy f a × OperationsBy f b
  BranchOperationsBy f (branch r a b m) = OperationsBy f a × OperationsBy f b × BranchOperationsBy f m

-- A starter or client of a file whose B rows name the operations that f gives.
pub record FileBehaviour (f : ℕ → Operation) (b : Behaviour) : Type 0 where
  pub once : EachRowOnce b
  pub in_file : AsInFile b
  pub parts : BehaviourShape b
  pub operations : OperationsBy f b

-- What holds of a thing, if there is one.
abbrev pub IfAny : {A : Type 0} → Optional A → (A → Type 0) → Type 0
IfAny none P = Unit {0}
IfAny (some a) P = P a

-- A service's two behaviours by their role.
pub data Role : Type 0 where
  as_starter as_client : Role

abbrev pub behaviour_as : Role → Service → Optional Behaviour
behaviour_as as_starter v = v.starter
behaviour_as as_client v = v.client

-- The network that an unrefused file is, entry by entry.
pub record NetworkShape (f : ℕ → Operation) (n : Network) : Type 0 where
  pub behaviours : (q : ℕ) (v : Service) (x : Role) → entry q n.services ≡ some v
      → IfAny (behaviour_as x v) (FileBehaviour f)
  -- "starter row (a choice)"
  pub starters : (q : ℕ) (v : Service) → entry q n.services ≡ some v
      → IfAny v.starter (λ b. T (is_choice_behaviour b))
  -- "Each row is used exactly once, by a row or a service": different services' and roles' behaviours share no row
  pub apart : (p q : ℕ) (v u : Service) (x y : Role) (a b : Behaviour) → entry p n.services ≡ some v
      → entry q n.services ≡ some u
      → behaviour_as x v ≡ some a → behaviour_as y u ≡ some b → (p ≡ q → x ≡ y → ⊥) → Apart a b
  -- "location u16, unique and not 0"
  pub located : (q : ℕ) (v : Service) → entry q n.services ≡ some v → 0 < v.location
  pub locations_once : (p q : ℕ) (v u : Service) → entry p n.services ≡ some v → entry q n.services ≡ some u
      → v.location ≡ u.location → p ≡ q
  pub operations : (i : ℕ) (o : Operation) → entry i n.operations ≡ some o → OperationShape o
  pub numbered : (i : ℕ) (o : Operation) → entry i n.operations ≡ some o → o.row ≡ i
  pub owned : (i : ℕ) (o : Operation) → entry i n.operations ≡ some o
      → (v : Service) × (entry o.service n.services ≡ some v)
  -- "Input ids are unique in a service"
  pub inputs_once : (i j : ℕ) (o p : Operation) → entry i n.operations ≡ some o → entry j n.operations ≡ some p
      → o.direction ≡ input → p.direction ≡ input → o.service ≡ p.service → o.id ≡ p.id → i ≡ j
  -- "so are pairs of id and location for outputs"
  pub outputs_once : (i j : ℕ) (o p : Operation) → entry i n.operations ≡ some o → entry j n.operations ≡ some p
      → o.direction ≡ output → p.direction ≡ output → o.service ≡ p.service → o.id ≡ p.id
      → o.location ≡ p.location → i ≡ j
