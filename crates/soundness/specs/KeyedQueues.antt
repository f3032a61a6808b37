-- Messages by key: what is queued in a keyed service. 02: "A message goes only to the live session 1 to 3 with its key".
use Rattle.std.specs.Prelude.{◌≡◌, List, [], ◌∷◌, ℕ, T}
use Rattle.network_syntax.specs.Syntax.{Network, some}
use Rattle.network_syntax.specs.Keys.{key_id, is_keyed, holds_key}
use Rattle.state.specs.Session.{Queued}
use Rattle.move_rules.specs.Keys.{key_of}

-- Every message of the queue has the key x, by the key id k.
unfoldable pub AllOfKey : ℕ → ℕ → List Queued → Type 0
AllOfKey k x [] = Unit {0}
AllOfKey k x (m ∷ l) = (key_of k m.message ≡ some x) × AllOfKey k x l

-- The queue l of the session n of the service q, whose key is x: a session that holds a key has messages of that key queued, and session 0 of
-- a keyed service none.
pub record KeyedQueue (N : Network) (q n x : ℕ) (l : List Queued) : Type 0 where
  pub of_key : T (holds_key N q n) → AllOfKey (key_id N q) x l
  pub first : T (is_keyed N q) → n ≡ 0 → l ≡ []
