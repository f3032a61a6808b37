-- Root ids. 01, Typing: "no root id (a path's first id) occurs on both sides". All paths of a behaviour count: where a message
-- goes, the reply path, what is assigned, every path or presence in an expression, in all nested rows.
use Rattle.std.specs.Prelude.{Bool, true, false, not, ◌&&◌, ◌||◌, ℕ, T, eqb}
use Rattle.tree_forest.specs.Path.{Path, root_id}
use Rattle.network_syntax.specs.Syntax.{Expression, constant, value_at, presence, unary, binary, Behaviour, nil, one_way, request_response}
use Rattle.network_syntax.specs.Syntax.{notification, solicit_response, if_then_else, while_do, sequence, parallel, assign, choice}
use Rattle.network_syntax.specs.Syntax.{waiting, answering, Branches, last_branch, branch}

abbrev pub is_root : ℕ → Path → Bool
is_root i x = eqb i (root_id x)

-- The root id i occurs in the expression.
unfoldable pub occurs_in : ℕ → Expression → Bool
occurs_in i (constant v) = false
occurs_in i (value_at x) = is_root i x
occurs_in i (presence x) = is_root i x
occurs_in i (unary o e) = occurs_in i e
occurs_in i (binary o a b) = occurs_in i a || occurs_in i b

unfoldable mutual
  -- The root id i occurs in the behaviour.
  pub occurs : ℕ → Behaviour → Bool
  occurs i (nil r) = false
  occurs i (one_way r o x) = is_root i x
  occurs i (request_response r o x c d) = is_root i x || (is_root i c || occurs i d)
  occurs i (notification r o e) = occurs_in i e
  occurs i (solicit_response r o e x) = occurs_in i e || is_root i x
  occurs i (if_then_else r e a b) = occurs_in i e || (occurs i a || occurs i b)
  occurs i (while_do r e b) = occurs_in i e || occurs i b
  occurs i (sequence r a b) = occurs i a || occurs i b
  occurs i (parallel r a b) = occurs i a || occurs i b
  occurs i (assign r x e) = occurs_in i e || is_root i x
  occurs i (choice r m) = occurs_in_branches i m
  occurs i (waiting r o x) = is_root i x
  occurs i (answering r o c d) = is_root i c || occurs i d

  pub occurs_in_branches : ℕ → Branches → Bool
  occurs_in_branches i (last_branch r a b) = occurs i a || occurs i b
  occurs_in_branches i (branch r a b m) = (occurs i a || occurs i b) || occurs_in_branches i m

-- No root id occurs on both sides.
abbrev pub NoSharedRoot : Behaviour → Behaviour → Type 0
NoSharedRoot a b = (i : ℕ) → T (occurs i a) → T (occurs i b) → ⊥

-- The test: it holds of every root id that occurs that it does not occur on the other side.
unfoldable pub all_roots_in : (ℕ → Bool) → Expression → Bool
all_roots_in q (constant v) = true
all_roots_in q (value_at x) = q (root_id x)
all_roots_in q (presence x) = q (root_id x)
all_roots_in q (unary o e) = all_roots_in q e
all_roots_in q (binary o a b) = all_roots_in q a && all_roots_in q b

unfoldable mutual
  pub all_roots : (ℕ → Bool) → Behaviour → Bool
  all_roots q (nil r) = true
  all_roots q (one_way r o x) = q (root_id x)
  all_roots q (request_response r o x c d) = q (root_id x) && (q (root_id c) && all_roots q d)
  all_roots q (notification r o e) = all_roots_in q e
  all_roots q (solicit_response r o e x) = all_roots_in q e && q (root_id x)
  all_roots q (if_then_else r e a b) = all_roots_in q e && (all_roots q a && all_roots q b)
  all_roots q (while_do r e b) = all_roots_in q e && all_roots q b
  all_roots q (sequence r a b) = all_roots q a && all_roots q b
  all_roots q (parallel r a b) = all_roots q a && all_roots q b
  all_roots q (assign r x e) = all_roots_in q e && q (root_id x)
  all_roots q (choice r m) = all_branch_roots q m
  all_roots q (waiting r o x) = q (root_id x)
  all_roots q (answering r o c d) = q (root_id c) && all_roots q d

  pub all_branch_roots : (ℕ → Bool) → Branches → Bool
  all_branch_roots q (last_branch r a b) = all_roots q a && all_roots q b
  all_branch_roots q (branch r a b m) = (all_roots q a && all_roots q b) && all_branch_roots q m

abbrev pub no_shared_root : Behaviour → Behaviour → Bool
no_shared_root a b = all_roots (λ i. not (occurs i b)) a
