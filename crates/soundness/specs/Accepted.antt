-- What property 3 asks of a network: what the checker's acceptance of its file gives, and no more.
use Rattle.std.specs.Prelude.{◌≡◌, ℕ, suc, ◌<◌, ◌≤◌, T, length}
use Rattle.tree_forest.specs.Forest.{end, tree, nodes, levels}
use Rattle.network_syntax.specs.Syntax.{Types, MessageType, some, Network, Operation, output, Behaviour, nil, one_way, request_response, notification}
use Rattle.network_syntax.specs.Syntax.{solicit_response, if_then_else, while_do, sequence, parallel, assign, choice, waiting, answering, Branches}
use Rattle.network_syntax.specs.Syntax.{last_branch, branch}
use Rattle.network.specs.Shapes.{EachRowOnce, AsInFile}
use Rattle.network_syntax.specs.Meets.{met_input, in_file}
use Rattle.check_typing.specs.Rules.{Derives, RisingOperation}
use Rattle.check_typing.specs.NetworkRules.{Agrees}
use Rattle.tree_forest.specs.Limits.{message_levels_below, message_nodes_below}
use Rattle.state.specs.Shape.{behaviour_in, operation_of_row}
use Rattle.soundness.specs.GoodTrees.{GoodPath, GoodExpression}
use Rattle.soundness.specs.Parts.{branch_at}

-- The operation is that of its O row.
abbrev pub OfFile : Network → Operation → Type 0
OfFile N o = operation_of_row N.operations o.row ≡ some o

unfoldable mutual
  -- Every row of the behaviour is one of the file's `rows` B rows, and its operations, paths and constants are the file's.
  pub MadeOf : Network → ℕ → Behaviour → Type 0
  MadeOf N rows (nil r) = r < rows
  MadeOf N rows (one_way r o x) = (r < rows) × OfFile N o × GoodPath x
  MadeOf N rows (request_response r o x c d) = (r < rows) × OfFile N o × GoodPath x × MadeOf N rows d
  MadeOf N rows (notification r o e) = (r < rows) × OfFile N o × GoodExpression e
  MadeOf N rows (solicit_response r o e x) = (r < rows) × OfFile N o × GoodExpression e × GoodPath x
  MadeOf N rows (if_then_else r e a b) = (r < rows) × GoodExpression e × MadeOf N rows a × MadeOf N rows b
  MadeOf N rows (while_do r e b) = (r < rows) × GoodExpression e × MadeOf N rows b
  MadeOf N rows (sequence r a b) = (r < rows) × MadeOf N rows a × MadeOf N rows b
  MadeOf N rows (parallel r a b) = (r < rows) × MadeOf N rows a × MadeOf N rows b
  MadeOf N rows (assign r x e) = (r < rows) × GoodPath x × GoodExpression e
  MadeOf N rows (choice r m) = (r < rows) × MadeOfBranches N rows m
  MadeOf N rows (waiting r o x) = (r < rows) × OfFile N o × GoodPath x
  MadeOf N rows (answering r o c d) = (r < rows) × OfFile N o × MadeOf N rows d

  pub MadeOfBranches : Network → ℕ → Branches → Type 0
  MadeOfBranches N rows (last_branch r a b) = (r < rows) × MadeOf N rows a × MadeOf N rows b
  MadeOfBranches N rows (branch r a b m) = (r < rows) × MadeOf N rows a × MadeOf N rows b × MadeOfBranches N rows m

-- "Every T row written out has at most 16 nodes and 4 levels", its root one of each.
abbrev pub SmallType : MessageType → Type 0
SmallType (tree a k) = (levels k ≤ message_levels_below) × (nodes k ≤ message_nodes_below)

-- The operation of the O row w.
pub record OperationFits (w : ℕ) (o : Operation) : Type 0 where
  pub row : o.row ≡ w
  pub rising : RisingOperation o
  pub small_request : SmallType o.request
  pub small_reply : SmallType o.reply

-- A starter or client: each row once, as in a file, made of the file's parts.
pub record BehaviourFits (N : Network) (rows : ℕ) (B : Behaviour) : Type 0 where
  pub each_once : EachRowOnce B
  pub standing : AsInFile B
  pub made : MadeOf N rows B

-- A client is derived from the empty environment.
abbrev pub DerivedClient : ℕ → Behaviour → Type 0
DerivedClient q B = (Δ : Types) × Derives q B end Δ

-- A starter is a choice, each branch of which is derived from the empty environment.
pub record DerivedStarter (q : ℕ) (B : Behaviour) : Type 0 where
  pub row : ℕ
  pub options : Branches
  pub is_choice : B ≡ choice row options
  pub branches : (k : ℕ) → (Δ : Types) × Derives q (branch_at k options) end Δ

-- The network of an accepted file with `rows` B rows.
pub record Accepted (N : Network) (rows : ℕ) : Type 0 where
  pub few_rows : rows ≤ 256
  pub few_services : length N.services ≤ 4
  pub operations : (w : ℕ) (o : Operation) → operation_of_row N.operations w ≡ some o → OperationFits w o
  pub behaviours : (q n : ℕ) (B : Behaviour) → behaviour_in N q n ≡ some B → BehaviourFits N rows B
  pub clients : (q : ℕ) (B : Behaviour) → behaviour_in N q 0 ≡ some B → DerivedClient q B
  pub starters : (q n : ℕ) (B : Behaviour) → behaviour_in N q (suc n) ≡ some B → DerivedStarter q B
  pub outputs : (w : ℕ) (o i : Operation) → operation_of_row N.operations w ≡ some o → o.direction ≡ output → T (in_file N o.location)
      → met_input N o ≡ some i → Agrees o i
