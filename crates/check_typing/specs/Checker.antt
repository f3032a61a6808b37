-- The checker of behaviours: the environment, or number and row of the first premise that fails. 01, Typing: "In a row the
-- operation is tried first, then operands a before b, the expression's rule, sub-behaviours in field order, and placing or
-- assigning; request-response in rule order. The first premise that fails gives its number among 6 to 12."
use Rattle.std.specs.Prelude.{Bool, true, false, ◌&&◌, ℕ, eqb}
use Rattle.tree_forest.specs.Forest.{end, node, Tree, tree}
use Rattle.tree_forest.specs.Path.{Path}
use Rattle.refusal.specs.declared.Refusal.TheVariants.{WrongOperation, OperandType, TypeMisfit, EnvironmentsDiffer, SharedRoot, EnvironmentTooLarge}
use Rattle.scalar.specs.Basic.{bool}
use Rattle.network_syntax.specs.Syntax.{mark, Types, MessageType, Expression, Direction, input, output, Operation, Behaviour, nil, one_way, request_response}
use Rattle.network_syntax.specs.Syntax.{notification, solicit_response, if_then_else, while_do, sequence, parallel, assign, choice}
use Rattle.network_syntax.specs.Syntax.{waiting, answering, Branches, last_branch, branch}
use Rattle.check_subtyping.specs.Subtype.{root_basic, is_subtype}
use Rattle.check_typing.specs.Result.{Attempt, yields, demand, and_then, Checked, passed, with_row, next}
use Rattle.check_typing.specs.Environment.{within, read_firm, place, assign_to}
use Rattle.check_typing.specs.ExpressionTyping.{expression_type}
use Rattle.check_typing.specs.Occurs.{no_shared_root}
use Rattle.check_typing.specs.Rules.{same_bool, permits}

-- Equal environments: the same ids, cardinalities and basic types throughout.
unfoldable pub same_types : Types → Types → Bool
same_types end end = true
same_types end (node j b l s) = false
same_types (node i a k r) end = false
same_types (node i (mark m a) k r) (node j (mark n b) l s) =
    eqb i j && (same_bool m n && (eqb a b && (same_types k l && same_types r s)))

-- 6: "The operation has another service, direction or kind".
abbrev pub if_permitted : ℕ → Direction → Bool → Operation → Attempt Types → Attempt Types
if_permitted q d two_way o a = demand (permits q d two_way o) WrongOperation a

-- 12, after a placing: "Γ passes 48 nodes or 6 levels."
abbrev pub limited : Attempt Types → Attempt Types
limited a = and_then a (λ Γ. demand (within Γ) EnvironmentTooLarge (yields Γ))

-- The expression's type, then its ≤ (9).
abbrev pub sends : Types → Expression → MessageType → Attempt Types
sends Γ e t = and_then (expression_type Γ e) (λ n. demand (is_subtype n t) TypeMisfit (yields Γ))

-- The reply path (7), then its ≤ (9).
abbrev pub answers : Path → Types → MessageType → Attempt Types
answers c Γ t = and_then (read_firm c Γ) (λ n. demand (is_subtype n t) TypeMisfit (yields Γ))

-- The expression's type, then 8.
abbrev pub condition : Types → Expression → Attempt Types
condition Γ e = and_then (expression_type Γ e) (λ n. demand (eqb (root_basic n) bool) OperandType (yields Γ))

-- 10: "Environments that must agree differ."
abbrev pub agreeing : Types → Types → Attempt Types
agreeing Δ Γ = demand (same_types Δ Γ) EnvironmentsDiffer (yields Γ)

unfoldable mutual
  -- B, of the service row q, from Γ.
  pub check : ℕ → Behaviour → Types → Checked Types
  check q (nil r) Γ = passed Γ
  check q (one_way r o x) Γ = with_row r (if_permitted q input false o (limited (place x o.request Γ)))
  check q (request_response r o x p d) Γ =
      next (with_row r (if_permitted q input true o (limited (place x o.request Γ))))
      (λ Γ1. next (check q d Γ1) (λ Δ. with_row r (answers p Δ o.reply)))
  check q (notification r o e) Γ = with_row r (if_permitted q output false o (sends Γ e o.request))
  check q (solicit_response r o e x) Γ =
      next (with_row r (if_permitted q output true o (sends Γ e o.request)))
      (λ Γ1. with_row r (limited (place x o.reply Γ)))
  check q (if_then_else r e a b) Γ =
      next (with_row r (condition Γ e))
      (λ Γ1. next (check q a Γ) (λ Δ. next (check q b Γ) (λ Θ. with_row r (agreeing Θ Δ))))
  check q (while_do r e b) Γ =
      next (with_row r (condition Γ e)) (λ Γ1. next (check q b Γ) (λ Δ. with_row r (agreeing Δ Γ)))
  check q (sequence r a b) Γ = next (check q a Γ) (λ Γ1. check q b Γ1)
  check q (parallel r a b) Γ =
      next (with_row r (demand (no_shared_root a b) SharedRoot (yields Γ))) (λ Γ0. next (check q a Γ) (λ Γ1. check q b Γ1))
  check q (assign r x e) Γ = with_row r (and_then (expression_type Γ e) (λ n. limited (assign_to x (root_basic n) Γ)))
  check q (choice r m) Γ = check_branches q r m Γ
  check q (waiting r o x) Γ = with_row r (if_permitted q output true o (limited (place x o.reply Γ)))
  check q (answering r o p d) Γ =
      next (with_row r (if_permitted q input true o (yields Γ)))
      (λ Γ1. next (check q d Γ) (λ Δ. with_row r (answers p Δ o.reply)))

  -- The branches of the choice of row c: all are checked before any two are compared, and the place of 10 is the choice's row.
  pub check_branches : ℕ → ℕ → Branches → Types → Checked Types
  check_branches q c (last_branch r a b) Γ = next (check q a Γ) (λ Γ1. check q b Γ1)
  check_branches q c (branch r a b m) Γ =
      next (next (check q a Γ) (λ Γ1. check q b Γ1)) (λ Δ. next (check_branches q c m Γ) (λ Θ. with_row c (agreeing Θ Δ)))
