-- What the functions of this crate tell, each for every environment Γ that its argument stands for, every file that none of 2 to 5
-- refuses and every row of it; on other bytes the functions end and say nothing.
use Rattle.std.specs.Prelude.{◌≡◌, List, Bool, true, false, ℕ, ◌<◌, ◌≤◌}
use Rattle.tree_forest.specs.Forest.{Tree}
use Rattle.refusal.specs.declared.Refusal.TheVariants.{PathNotFirm}
use Rattle.scalar.specs.Basic.{last_basic}
use Rattle.scalar.specs.Value.{Value}
use Rattle.network_syntax.specs.Syntax.{Types, MessageType}
use Rattle.check_subtyping.specs.Subtype.{root_basic, is_subtype}
use Rattle.check_typing.specs.Result.{Attempt, fails, yields, with_row}
use Rattle.check_typing.specs.Environment.{is_in, read_firm, place, assign_to}
use Rattle.check_typing.specs.Checker.{same_types, limited, answers}
use Rattle.check_typing.specs.NetworkRules.{union}
use Rattle.check_typing.specs.NetworkChecker.{one_type}
use Rattle.network.specs.Form.{WellFormed}
use Rattle.network.specs.Layout.{path_count, type_count}
use Rattle.network.specs.Decode.{path_of, type_of}
use Rattle.tree.specs.Standing.{Root}
use Rattle.check_types.specs.Image.{type_as}
use Rattle.check_environments.specs.declared.Environment.{Environment}
use Rattle.check_environments.specs.Environment.{EnvironmentFor, StepAnswers}
use Rattle.std.specs.Prelude.{Option, Some, None}
use Rattle.std.specs.Prelude.{Result, Ok, Err}
use Rattle.refusal.specs.declared.Refusal.{Refusal}

-- s is what placing the type of T row r at the path of P row p answers, for the B row `row`: 7, 9, 12 or the environment.
pub record Places (file : List ℕ) (e : Environment) (p r row : ℕ) (s : Result Environment Refusal) : Type 0 where
  pub tells : (Γ : Types) → EnvironmentFor e Γ → WellFormed file → p < path_count file → r < type_count file →
      StepAnswers s (with_row row (limited (place (path_of file p) (type_of file r) Γ)))

-- s is what assigning the basic type b at the path of P row p answers, for the B row `row`: 7, 9, 7, 12 or the environment.
pub record Assigns (file : List ℕ) (e : Environment) (p b row : ℕ) (s : Result Environment Refusal) : Type 0 where
  pub tells : (Γ : Types) → EnvironmentFor e Γ → WellFormed file → p < path_count file → b ≤ last_basic →
      StepAnswers s (with_row row (limited (assign_to (path_of file p) b Γ)))

-- s is what asking that the path of P row p stands firm and is ≤ the type of T row r answers, for the B row `row`: 7, 9 or Γ.
pub record Asks (file : List ℕ) (e : Environment) (p r row : ℕ) (s : Result Environment Refusal) : Type 0 where
  pub tells : (Γ : Types) → EnvironmentFor e Γ → WellFormed file → p < path_count file → r < type_count file →
      StepAnswers s (with_row row (answers (path_of file p) Γ (type_of file r)))

-- x tells whether the path of P row p is in Γ.
pub record IsIn (file : List ℕ) (e : Environment) (p : ℕ) (x : Bool) : Type 0 where
  pub tells : (Γ : Types) → EnvironmentFor e Γ → WellFormed file → p < path_count file → x ≡ is_in (path_of file p) Γ

-- The type t stands at `at` in e.
pub record TypeAt (e : Environment) (at : ℕ) (t : MessageType) : Type 0 where
  pub id : ℕ
  pub held : Tree Value
  pub root : Root e.bytes at id held
  pub type : t ≡ type_as false held

-- The path stands firm: its type, with the basic type b, stands at `at`.
pub record ReadAt (e : Environment) (at b : ℕ) (found : Attempt MessageType) : Type 0 where
  pub there : MessageType
  pub is : found ≡ yields there
  pub basic : b ≡ root_basic there
  pub spot : TypeAt e at there

abbrev pub ReadsAs : Environment → Option (ℕ × ℕ) → Attempt MessageType → Type 0
ReadsAs e (Some (at, b)) found = ReadAt e at b found
ReadsAs e None found = found ≡ fails PathNotFirm

-- x says where the path of P row p stands firm in Γ, or that it does not.
pub record ReadsFirm (file : List ℕ) (e : Environment) (p : ℕ) (x : Option (ℕ × ℕ)) : Type 0 where
  pub tells : (Γ : Types) → EnvironmentFor e Γ → WellFormed file → p < path_count file → ReadsAs e x (read_firm (path_of file p) Γ)

-- x tells whether the type that stands at `at` is ≤ the type of T row r.
pub record TypeUnder (file : List ℕ) (e : Environment) (at r : ℕ) (x : Bool) : Type 0 where
  pub tells : (t : MessageType) → TypeAt e at t → WellFormed file → r < type_count file → x ≡ is_subtype t (type_of file r)

-- x tells whether two environments are equal (10).
pub record SameEnvironments (e d : Environment) (x : Bool) : Type 0 where
  pub tells : (Γ Δ : Types) → EnvironmentFor e Γ → EnvironmentFor d Δ → x ≡ same_types Γ Δ

-- x tells whether "a root bound by two branches has one type" (10).
pub record OneTyped (e d : Environment) (x : Bool) : Type 0 where
  pub tells : (Γ Δ : Types) → EnvironmentFor e Γ → EnvironmentFor d Δ → x ≡ one_type Γ Δ

-- s is the union of two environments in which each root has one type, or 12 for the B row `row`.
pub record Unites (e d : Environment) (row : ℕ) (s : Result Environment Refusal) : Type 0 where
  pub tells : (Γ Δ : Types) → EnvironmentFor e Γ → EnvironmentFor d Δ → one_type Γ Δ ≡ true → StepAnswers s (with_row row (limited (yields (union Γ Δ))))
