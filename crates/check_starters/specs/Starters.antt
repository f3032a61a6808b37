-- What the functions of this crate tell, for every file that none of 2 to 5 refuses; on other bytes they end and say nothing.
use Rattle.std.specs.Prelude.{◌≡◌, List, [], ◌∷◌, Bool, true, ℕ, zero, suc, ◌+◌, ◌<◌, ◌≤◌}
use Rattle.tree_forest.specs.Forest.{end}
use Rattle.network_syntax.specs.Syntax.{Types, Behaviour, sequence}
use Rattle.check_typing.specs.Result.{yields, demand, passed, with_row, next, verdict_of}
use Rattle.check_typing.specs.Checker.{limited, check}
use Rattle.check_typing.specs.NetworkRules.{union_of}
use Rattle.check_typing.proofs.NetworkLaws.{AllRising}
use Rattle.refusal.specs.declared.Refusal.TheVariants.{EnvironmentsDiffer}
use Rattle.check_typing.specs.Branches.{union_from, one_type_from}
use Rattle.check_typing.specs.NetworkChecker.{check_each, one_type_with, one_type_each, check_starter, check_client}
use Rattle.network.specs.declared.BehaviourKind.{BehaviourKind}
use Rattle.network.specs.Form.{WellFormed}
use Rattle.network.specs.Layout.{behaviour_count, behaviour_at}
use Rattle.network.specs.Rows.{field_a, field_b, kind_at}
use Rattle.network.specs.Decode.{behaviour_of}
use Rattle.check_environments.specs.declared.Environment.{Environment}
use Rattle.check_environments.specs.Environment.{EnvironmentFor, StepAnswers}
use Rattle.network_row_parts.specs.Behaviours.{BranchSubs}
use Rattle.std.specs.Prelude.{Option, Some, Result, Ok, Err}
use Rattle.refusal.specs.declared.Refusal.{Refusal}

-- The branch at row j, and the n branches from row j on, each as the sequence of its input and what follows.
abbrev pub branch_of_row : List ℕ → ℕ → Behaviour
branch_of_row file j = sequence j (behaviour_of file (field_a file (behaviour_at file j))) (behaviour_of file (field_b file (behaviour_at file j)))

unfoldable pub branch_list : List ℕ → ℕ → ℕ → List Behaviour
branch_list file j zero = []
branch_list file j (suc n) = branch_of_row file j ∷ branch_list file (suc j) n

-- The parts of each of the n branches from row j on are rows of the file.
pub record BranchRun (file : List ℕ) (at n left j : ℕ) : Type 0 where
  pub form : WellFormed file
  pub there : at ≡ behaviour_at file j
  pub subs : (k : ℕ) → j ≤ k → k < j + n → BranchSubs file left k

-- What the branch at `at` gives.
pub record BranchGives (file : List ℕ) (q at left : ℕ) (s : Result Environment Refusal) : Type 0 where
  pub tells : (n j : ℕ) → BranchRun file at n left j → 0 < n → StepAnswers s (check q (branch_of_row file j) end)

pub record Each (file : List ℕ) (q at n left : ℕ) (v : Result (Unit {0}) Refusal) : Type 0 where
  pub tells : (j : ℕ) → BranchRun file at n left j → v ≡ verdict_of (check_each q (branch_list file j n))
  pub rises : (j : ℕ) (Γs : List Types) → BranchRun file at n left j → check_each q (branch_list file j n) ≡ passed Γs → AllRising Γs

-- Where the branches pass with the environments Γs: 10, and the union.
pub record Against (file : List ℕ) (q : ℕ) (d : Environment) (at n left : ℕ) (x : Bool) : Type 0 where
  pub tells : (j : ℕ) (Γ : Types) (Γs : List Types) → EnvironmentFor d Γ → BranchRun file at n left j → check_each q (branch_list file j n) ≡ passed Γs
      → x ≡ one_type_with Γ Γs

pub record OneEach (file : List ℕ) (q at n left : ℕ) (x : Bool) : Type 0 where
  pub tells : (j : ℕ) (Γs : List Types) → BranchRun file at n left j → check_each q (branch_list file j n) ≡ passed Γs → x ≡ one_type_each Γs

pub record UnitesAll (file : List ℕ) (q row at n left : ℕ) (u : Environment) (s : Result Environment Refusal) : Type 0 where
  pub tells : (j : ℕ) (Γ : Types) (Γs : List Types) → EnvironmentFor u Γ → BranchRun file at n left j → check_each q (branch_list file j n) ≡ passed Γs
      → AllRising Γs
      → one_type_from true Γ Γs ≡ true → StepAnswers s (with_row row (limited (yields (union_from Γ Γs))))

pub record Joins (file : List ℕ) (q row at n left : ℕ) (s : Result Environment Refusal) : Type 0 where
  pub tells : (j : ℕ) (Γs : List Types) → BranchRun file at n left j → check_each q (branch_list file j n) ≡ passed Γs → AllRising Γs
      → StepAnswers s (with_row row (demand (one_type_each Γs) EnvironmentsDiffer (limited (yields (union_of Γs)))))

-- The environments of the branches join Γ, the union of those before, one after another: the first refusal, 10, 12 or the union, where x is
-- sure of it.
pub record Gathers (file : List ℕ) (q row at n left : ℕ) (u : Environment) (x : Option (Result Environment Refusal)) : Type 0 where
  pub tells : (s : Result Environment Refusal) → x ≡ Some s → (j : ℕ) (Γ : Types) → EnvironmentFor u Γ → BranchRun file at n left j
      → StepAnswers s (next (check_each q (branch_list file j n))
      (λ Γs. with_row row (demand (one_type_from true Γ Γs) EnvironmentsDiffer (limited (yields (union_from Γ Γs))))))
  pub rises : (s : Result Environment Refusal) → x ≡ Some s → (j : ℕ) (Γs : List Types) → BranchRun file at n left j → check_each q (branch_list file j n) ≡ passed Γs → AllRising Γs

-- The starter of row r, a choice; the client of row r.
pub record StarterChecks (file : List ℕ) (q r : ℕ) (s : Result Environment Refusal) : Type 0 where
  pub tells : WellFormed file → r < behaviour_count file → kind_at file r ≡ BehaviourKind.Choice → StepAnswers s (check_starter q (behaviour_of file r))

pub record Clients (file : List ℕ) (q r : ℕ) (s : Result Environment Refusal) : Type 0 where
  pub tells : WellFormed file → r < behaviour_count file → StepAnswers s (check_client q (behaviour_of file r))
