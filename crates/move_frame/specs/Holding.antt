-- A state in the bytes, between two stores of a move.
use Rattle.std.specs.Prelude.{◌≡◌, List, ◌⊎◌, ℕ, ◌<◌, ◌≤◌}
use Rattle.state.specs.Session.{free, State}
use Rattle.state.specs.Bytes.{state_bytes}
use Rattle.state.specs.Shape.{MadeSlot}

-- The bytes s are those of the state G, whose slots are those of sessions. Every state of a file's shape is such a state, and so is one in which
-- the sender of a message has gone on.
pub record Holding (s : List ℕ) (G : State) : Type 0 where
  pub bytes : s ≡ state_bytes G
  pub made : (q n : ℕ) → q < 4 → n < 4 → MadeSlot (G q n)
  pub elsewhere : (q n : ℕ) → (4 ≤ q) ⊎ (4 ≤ n) → G q n ≡ free
