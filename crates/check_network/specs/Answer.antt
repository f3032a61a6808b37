-- What the checker's code answers, as a function of what `check_file` gives: the verdict, and for each of up to four services the
-- environments of starter and client. What is not there, and all of a refused file, is the empty environment.
use Rattle.std.specs.Prelude.{◌≡◌, List, [], ◌∷◌, ℕ, zero, suc, ◌+◌, ◌<◌, ◌≤◌}
use Rattle.tree_forest.specs.Forest.{end}
use Rattle.network_syntax.specs.Syntax.{Types, Optional, none, some, Service, Network}
use Rattle.check_typing.specs.Result.{Checked, refused, passed, next, verdict_of}
use Rattle.check_typing.specs.NetworkRules.{Environments}
use Rattle.check_typing.specs.NetworkChecker.{check_starter, check_client, if_there, check_services, check_outputs, check_keys}
use Rattle.network.specs.Form.{WellFormed}
use Rattle.network.specs.Layout.{service_count}
use Rattle.network.specs.Decode.{service_of, rows_from, network_of}
use Rattle.check_environments.specs.declared.Environment.{Environment}
use Rattle.check_environments.specs.Environment.{standing, Shape}
use Rattle.check_network.specs.declared.Pair.{Pair}
use Rattle.check_network.specs.declared.Answer.{Answer}
use Rattle.std.specs.Prelude.{Result, Ok, Err}
use Rattle.refusal.specs.declared.Refusal.{Refusal}

-- The environment of a starter or client that may not be there.
abbrev pub environment_of : Optional Types → Environment
environment_of none = standing end
environment_of (some Γ) = standing Γ

abbrev pub pair_of : Environments → Pair
pair_of E = record { starter = environment_of E.starter; client = environment_of E.client }

abbrev pub empty_pair : Pair
empty_pair = record { starter = standing end; client = standing end }

-- The environments of the service in the k-th place.
unfoldable pub pair_at : ℕ → List Environments → Pair
pair_at k [] = empty_pair
pair_at zero (E ∷ Es) = pair_of E
pair_at (suc k) (E ∷ Es) = pair_at k Es

-- A verdict alone, as for a refused file.
abbrev pub refused_with : Result (Unit {0}) Refusal → Answer
refused_with v = record { verdict = v; first = empty_pair; second = empty_pair; third = empty_pair; fourth = empty_pair }

-- The whole answer.
unfoldable pub check_answer : Checked (List Environments) → Answer
check_answer (refused why) = refused_with (Err why)
check_answer (passed Es) =
    record { verdict = (Ok tt); first = pair_at 0 Es; second = pair_at 1 Es; third = pair_at 2 Es; fourth = pair_at 3 Es }

-- One service before others.
abbrev pub with_first : Pair → Answer → Answer
with_first p x = record { verdict = (Ok tt); first = p; second = x.first; third = x.second; fourth = x.third }

-- What a starter or client that may not be there answers; what one service answers.
unfoldable pub part_step : Checked (Optional Types) → Result Environment Refusal
part_step (refused why) = Err why
part_step (passed E) = Ok (environment_of E)

unfoldable pub one_of : Checked Environments → Result Pair Refusal
one_of (refused why) = Err why
one_of (passed E) = Ok (pair_of E)

-- One service: "starter first".
unfoldable pub check_service : ℕ → Service → Checked Environments
check_service q s =
    next (if_there (check_starter q) s.starter) (λ Γ. next (if_there (check_client q) s.client) (λ Δ. passed (record { starter = Γ; client = Δ })))

-- Every environment keeps to its limits. "Γ, that union too, has at most 48 nodes and 6 levels below its empty root."
abbrev pub ShapedIfThere : Optional Types → Type 0
ShapedIfThere none = Unit {0}
ShapedIfThere (some Γ) = Shape Γ

abbrev pub ShapedPair : Environments → Type 0
ShapedPair E = ShapedIfThere E.starter × ShapedIfThere E.client

unfoldable pub ShapedAll : List Environments → Type 0
ShapedAll [] = Unit {0}
ShapedAll (E ∷ Es) = ShapedPair E × ShapedAll Es

-- What passed keeps to P.
abbrev pub IfPassed : {A : Type 0} → (A → Type 0) → Checked A → Type 0
IfPassed P (refused why) = Unit {0}
IfPassed P (passed a) = P a

-- What the functions tell, for every file that none of 2 to 5 refuses.
pub record StarterGives (file : List ℕ) (q : ℕ) (s : Result Environment Refusal) : Type 0 where
  pub tells : WellFormed file → q < service_count file → s ≡ part_step (if_there (check_starter q) (service_of file q).starter)
  pub shapes : WellFormed file → q < service_count file → IfPassed ShapedIfThere (if_there (check_starter q) (service_of file q).starter)

pub record ClientGives (file : List ℕ) (q : ℕ) (s : Result Environment Refusal) : Type 0 where
  pub tells : WellFormed file → q < service_count file → s ≡ part_step (if_there (check_client q) (service_of file q).client)
  pub shapes : WellFormed file → q < service_count file → IfPassed ShapedIfThere (if_there (check_client q) (service_of file q).client)

pub record ServiceGives (file : List ℕ) (q : ℕ) (x : Result Pair Refusal) : Type 0 where
  pub tells : WellFormed file → q < service_count file → x ≡ one_of (check_service q (service_of file q))
  pub shapes : WellFormed file → q < service_count file → IfPassed ShapedPair (check_service q (service_of file q))

pub record ServicesGive (file : List ℕ) (q n : ℕ) (x : Answer) : Type 0 where
  pub tells : WellFormed file → q + n ≤ service_count file → x ≡ check_answer (check_services q (rows_from (service_of file) q n))
  pub shapes : WellFormed file → q + n ≤ service_count file → IfPassed ShapedAll (check_services q (rows_from (service_of file) q n))

-- All operations: 13, then 23.
abbrev pub check_operations : Network → Checked (Unit {0})
check_operations N = next (check_outputs N N.operations) (λ u. check_keys N N.operations)

pub record OperationsGive (file : List ℕ) (v : Result (Unit {0}) Refusal) : Type 0 where
  pub tells : WellFormed file → v ≡ verdict_of (check_operations (network_of file))
