-- What the functions of this crate tell: each for every environment Γ that its argument stands for and every file that none of 2 to 5
-- refuses; on other bytes the functions end and say nothing.
use Rattle.std.specs.Prelude.{◌≡◌, List, Bool, ℕ, zero, suc, ◌+◌, ◌<◌, ◌≤◌, eqb}
use Rattle.refusal.specs.declared.Refusal.TheVariants.{WrongOperation, OperandType, EnvironmentsDiffer}
use Rattle.scalar.specs.Basic.{bool}
use Rattle.basics.specs.Choice.{pick}
use Rattle.network_syntax.specs.Syntax.{Types, input, output, sequence, parallel}
use Rattle.check_typing.specs.Result.{yields, demand, Checked, with_row}
use Rattle.check_typing.specs.Environment.{place}
use Rattle.check_typing.specs.Rules.{permits}
use Rattle.check_typing.specs.Checker.{limited, sends, condition, agreeing, check, check_branches}
use Rattle.check_typing.specs.Branches.{conclude_choice}
use Rattle.network.specs.Form.{WellFormed}
use Rattle.network.specs.Layout.{path_count, type_count, expression_count, behaviour_count, operation_count, behaviour_at}
use Rattle.network.specs.Decode.{path_of, type_of, expression_of, operation_of, branches_from, behaviour_of}
use Rattle.network_rows.specs.declared.BehaviourRow.{BehaviourRow}
use Rattle.network_rows.specs.Readers.{behaviour_row_of}
use Rattle.check_environments.specs.declared.Environment.{Environment}
use Rattle.check_environments.specs.Environment.{EnvironmentFor, StepAnswers}
use Rattle.network_row_parts.specs.Behaviours.{behaviour_by, Sub, BranchSubs, KeptBy}
use Rattle.std.specs.Prelude.{Result, Ok, Err}
use Rattle.refusal.specs.declared.Refusal.{Refusal}

-- The expression of E row x is ≤ the type of T row t.
pub record SendsType (file : List ℕ) (r x t : ℕ) (e : Environment) (s : Result Environment Refusal) : Type 0 where
  pub tells : (Γ : Types) → EnvironmentFor e Γ → WellFormed file → x < expression_count file → t < type_count file →
      StepAnswers s (with_row r (sends Γ (expression_of file x) (type_of file t)))

-- The operation o is an output of the service, and the expression is ≤ its request type.
pub record SendChecks (file : List ℕ) (q r o x : ℕ) (two : Bool) (e : Environment) (s : Result Environment Refusal) : Type 0 where
  pub tells : (Γ : Types) → EnvironmentFor e Γ → WellFormed file → o < operation_count file → x < expression_count file →
      StepAnswers s (with_row r (demand (permits q output two (operation_of file o)) WrongOperation
      (sends Γ (expression_of file x) (operation_of file o).request)))

-- The operation o is an input of the service, and its request type is placed.
pub record Receives (file : List ℕ) (q r o p : ℕ) (two : Bool) (e : Environment) (s : Result Environment Refusal) : Type 0 where
  pub tells : (Γ : Types) → EnvironmentFor e Γ → WellFormed file → o < operation_count file → p < path_count file →
      StepAnswers s (with_row r (demand (permits q input two (operation_of file o)) WrongOperation
      (limited (place (path_of file p) (operation_of file o).request Γ))))

-- A condition of basic type b: "a bool".
abbrev pub condition_step : ℕ → ℕ → Environment → Result Environment Refusal
condition_step r b e = pick (eqb b bool) (Ok e) (Err (OperandType r))

-- The expression of E row x is a condition.
pub record Conditions (file : List ℕ) (r x : ℕ) (e : Environment) (s : Result Environment Refusal) : Type 0 where
  pub tells : (Γ : Types) → EnvironmentFor e Γ → WellFormed file → x < expression_count file → StepAnswers s (with_row r (condition Γ (expression_of file x)))

-- Two environments agree, and the second goes on.
pub record BranchesAgree (r : ℕ) (x d : Environment) (s : Result Environment Refusal) : Type 0 where
  pub tells : (Θ Δ : Types) → EnvironmentFor x Θ → EnvironmentFor d Δ → StepAnswers s (with_row r (agreeing Θ Δ))

-- A row without sub-behaviours; a row with sub-behaviours, for which so many rows are left; the behaviour of row r.
pub record LeafChecks (file : List ℕ) (q r : ℕ) (row : BehaviourRow) (e : Environment) (s : Result Environment Refusal) : Type 0 where
  pub tells : (left : ℕ) (Γ : Types) → EnvironmentFor e Γ → WellFormed file → KeptBy file left row → StepAnswers s (check q (behaviour_by file r row) Γ)

pub record RowChecks (file : List ℕ) (q r : ℕ) (row : BehaviourRow) (left : ℕ) (e : Environment) (s : Result Environment Refusal) : Type 0 where
  pub tells : (Γ : Types) → EnvironmentFor e Γ → WellFormed file → KeptBy file left row → StepAnswers s (check q (behaviour_by file r row) Γ)

-- A parallel, whose sides the sets of root ids tell apart.
pub record ParallelChecks (file : List ℕ) (q r a b left : ℕ) (e : Environment) (s : Result Environment Refusal) : Type 0 where
  pub tells : (Γ : Types) → EnvironmentFor e Γ → WellFormed file → r < behaviour_count file → behaviour_row_of file r ≡ BehaviourRow.Parallel a b
      → Sub file left a → Sub file left b → StepAnswers s (check q (parallel r (behaviour_of file a) (behaviour_of file b)) Γ)

pub record Checks (file : List ℕ) (q r left : ℕ) (e : Environment) (s : Result Environment Refusal) : Type 0 where
  pub tells : (Γ : Types) → EnvironmentFor e Γ → WellFormed file → Sub file left r → StepAnswers s (check q (behaviour_of file r) Γ)

-- The behaviours of the rows a and b, one after the other, as in a row k.
pub record Sequences (file : List ℕ) (q a b left : ℕ) (e : Environment) (s : Result Environment Refusal) : Type 0 where
  pub tells : (k : ℕ) (Γ : Types) → EnvironmentFor e Γ → WellFormed file → Sub file left a → Sub file left b →
      StepAnswers s (check q (sequence k (behaviour_of file a) (behaviour_of file b)) Γ)

-- All branches of the choice c are checked: the first gave Δ, and all gave the same or not.
pub record Settles (c : ℕ) (d : Environment) (same : Bool) (s : Result Environment Refusal) : Type 0 where
  pub tells : (Δ : Types) → EnvironmentFor d Δ → StepAnswers s (with_row c (demand same EnvironmentsDiffer (yields Δ)))

-- What the choice c gives after some branches, of which the first gave Δ and all the same or not; n branches follow, from row j on.
unfoldable pub go_on : ℕ → ℕ → List ℕ → Types → Types → Bool → ℕ → ℕ → Checked Types
go_on q c file Γ Δ same j zero = with_row c (demand same EnvironmentsDiffer (yields Δ))
go_on q c file Γ Δ same j (suc n) = conclude_choice c Δ same (check_branches q c (branches_from file (behaviour_of file) j (suc n)) Γ)

pub record ChecksBranches (file : List ℕ) (q c at n left : ℕ) (e d : Environment) (same : Bool) (s : Result Environment Refusal) : Type 0 where
  pub tells : (Γ Δ : Types) (j : ℕ) → EnvironmentFor e Γ → EnvironmentFor d Δ → WellFormed file → at ≡ behaviour_at file j
      → ((k : ℕ) → j ≤ k → k < j + n → BranchSubs file left k) → StepAnswers s (go_on q c file Γ Δ same j n)
