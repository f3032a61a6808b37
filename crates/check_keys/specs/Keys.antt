-- What the functions of refusal 23 tell, for every file that none of 2 to 5 refuses; on other bytes they end and say nothing.
use Rattle.std.specs.Prelude.{◌≡◌, List, [], ◌∷◌, Bool, false, not, ◌||◌, ℕ, ◌+◌, ◌<◌, ◌≤◌, eqb}
use Rattle.network_syntax.specs.Syntax.{Service}
use Rattle.check_typing.specs.NetworkChecker.{has_key, input_keyed, check_keys}
use Rattle.check_typing.specs.Result.{verdict_of}
use Rattle.network.specs.Form.{WellFormed}
use Rattle.network.specs.Layout.{type_count, operation_count}
use Rattle.network.specs.Decode.{type_of, operation_of, rows_from, network_of}
use Rattle.std.specs.Prelude.{Result, Ok, Err}
use Rattle.refusal.specs.declared.Refusal.{Refusal}

-- Is one of the services keyed?
unfoldable pub some_keyed : List Service → Bool
some_keyed [] = false
some_keyed (v ∷ l) = not (eqb v.key 0) || some_keyed l

-- The type of T row t has the id k as a mandatory int child of its root.
pub record TypeTells (file : List ℕ) (k t : ℕ) (x : Bool) : Type 0 where
  pub tells : WellFormed file → t < type_count file → x ≡ has_key k (type_of file t)

-- O row o, if it is an input of a keyed service, has the key in its request type.
pub record InputTells (file : List ℕ) (o : ℕ) (x : Bool) : Type 0 where
  pub tells : WellFormed file → o < operation_count file → x ≡ input_keyed (network_of file) (operation_of file o)

-- The n operations from row o on; all operations.
pub record KeysFrom (file : List ℕ) (o n : ℕ) (v : Result (Unit {0}) Refusal) : Type 0 where
  pub tells : WellFormed file → o + n ≤ operation_count file
      → v ≡ verdict_of (check_keys (network_of file) (rows_from (operation_of file) o n))

pub record Keys (file : List ℕ) (v : Result (Unit {0}) Refusal) : Type 0 where
  pub tells : WellFormed file → v ≡ verdict_of (check_keys (network_of file) (network_of file).operations)
