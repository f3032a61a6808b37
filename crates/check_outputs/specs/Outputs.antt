-- What the functions of refusal 13 tell, for every file that none of 2 to 5 refuses; on other bytes they end and say nothing.
use Rattle.std.specs.Prelude.{◌≡◌, List, Bool, ℕ, ◌+◌, ◌<◌, ◌≤◌}
use Rattle.check_typing.specs.Result.{verdict_of}
use Rattle.check_typing.specs.NetworkChecker.{agrees, output_meets, check_outputs}
use Rattle.network.specs.Form.{WellFormed}
use Rattle.network.specs.Layout.{operation_count}
use Rattle.network.specs.Decode.{operation_of, rows_from, network_of}
use Rattle.std.specs.Prelude.{Result, Ok, Err}
use Rattle.refusal.specs.declared.Refusal.{Refusal}

-- O row o agrees with O row i, which it meets.
pub record OutputAgrees (file : List ℕ) (o i : ℕ) (x : Bool) : Type 0 where
  pub tells : WellFormed file → o < operation_count file → i < operation_count file → (operation_of file i).two_way ≡ (operation_of file o).two_way
      → x ≡ agrees (operation_of file o) (operation_of file i)

-- O row o, if it is an output to a location in the file, meets an input there and agrees with it.
pub record OutputTells (file : List ℕ) (o : ℕ) (x : Bool) : Type 0 where
  pub tells : WellFormed file → o < operation_count file → x ≡ output_meets (network_of file) (operation_of file o)

-- The n operations from row o on; all operations.
pub record OutputsFrom (file : List ℕ) (o n : ℕ) (v : Result (Unit {0}) Refusal) : Type 0 where
  pub tells : WellFormed file → o + n ≤ operation_count file
      → v ≡ verdict_of (check_outputs (network_of file) (rows_from (operation_of file) o n))

pub record Outputs (file : List ℕ) (v : Result (Unit {0}) Refusal) : Type 0 where
  pub tells : WellFormed file → v ≡ verdict_of (check_outputs (network_of file) (network_of file).operations)
