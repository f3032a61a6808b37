-- What the functions that start clients say, one service after another, for every file that none of 2 to 5 refuses.
use Rattle.std.specs.Prelude.{◌≡◌, List, ℕ, suc, ◌+◌, ◌<◌, ◌≤◌}
use Rattle.network.specs.Form.{WellFormed}
use Rattle.network.specs.Layout.{service_count}
use Rattle.network.specs.Decode.{network_of}
use Rattle.state.specs.Bytes.{state_bytes}
use Rattle.state.specs.Shape.{fresh_up_to}

-- From the state in which the clients before k live, that in which the client of k lives too.
pub record StartsClient (file : List ℕ) (k : ℕ) (s s' : List ℕ) : Type 0 where
  pub tells : WellFormed file → k < service_count file → s ≡ state_bytes (fresh_up_to (network_of file) k) → s' ≡ state_bytes (fresh_up_to (network_of file) (suc k))

-- That in which the clients of the n services from k on live too.
pub record StartsClientsFrom (file : List ℕ) (k n : ℕ) (s s' : List ℕ) : Type 0 where
  pub tells : WellFormed file → k + n ≤ service_count file → s ≡ state_bytes (fresh_up_to (network_of file) k) → s' ≡ state_bytes (fresh_up_to (network_of file) (k + n))
