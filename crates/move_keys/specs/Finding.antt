-- What the functions tell of a message to a keyed service. 02: "A message goes only to the live session 1 to 3 with its key, or starts one where
-- no live session has it; another target, and any target of a message without that int, is 15".
use Rattle.std.specs.Prelude.{◌≡◌, Bool, true, false, ◌||◌, List, ℕ, ◌<◌}
use Rattle.tree_forest.specs.Forest.{Tree, present}
use Rattle.scalar.specs.Value.{Value}
use Rattle.tree.specs.Encode.{Message}
use Rattle.tree.specs.Standing.{Root}
use Rattle.network_syntax.specs.Syntax.{Optional, none, some, Network, Operation}
use Rattle.network.specs.Form.{WellFormed}
use Rattle.network.specs.Layout.{service_count}
use Rattle.network.specs.Decode.{network_of}
use Rattle.state.specs.Session.{State}
use Rattle.state.specs.Bytes.{read_state}
use Rattle.move_rules.specs.Targets as definition
use Rattle.move_rules.specs.Keys.{int_of, key_of, key_to_keep, live_with, finds_by_key, finds_session}
use Rattle.move_targets.specs.declared.Target.{Target}
use Rattle.move_targets.specs.Answers.{target_as}
use Rattle.std.specs.Prelude.{Option, Some, None}

-- The key, if there is one.
abbrev pub key_found : Option ℕ → Optional ℕ
key_found (Some x) = some x
key_found None = none

-- The int of the tree that stands at `at`.
pub record IntAt (l : List ℕ) (at : ℕ) (x : Option ℕ) : Type 0 where
  pub tells : (i : ℕ) (t : Tree Value) → Root l at i t → key_found x ≡ int_of (present t)

-- The key of the message in l, by the key id k.
pub record MessageKey (l : List ℕ) (k : ℕ) (x : Option ℕ) : Type 0 where
  pub tells : (m : Tree Value) → Message l m → key_found x ≡ key_of k m

-- Session n of service q is live and holds the key x; one of 1 to 3 is.
pub record HoldsKey (s : List ℕ) (q n x : ℕ) (b : Bool) : Type 0 where
  pub tells : q < 4 → n < 4 → b ≡ live_with x (read_state s q n)

pub record IsHeld (s : List ℕ) (q x : ℕ) (b : Bool) : Type 0 where
  pub tells : q < 4 → b ≡ (live_with x (read_state s q 1) || (live_with x (read_state s q 2) || live_with x (read_state s q 3)))

-- There is a target.
abbrev pub IsTarget : definition.Target → Type 0
IsTarget t = t ≡ definition.no_target → ⊥

-- The key x goes to the target t, session n of service q.
pub record GoesTo (s : List ℕ) (q n : ℕ) (t : Target) (x : ℕ) (b : Bool) : Type 0 where
  pub tells : (file : List ℕ) → q < 4 → n < 4 → IsTarget (target_as file t) → b ≡ finds_by_key (read_state s q) n (target_as file t) x

-- The message m of an operation o goes to session n of its service, with the key that a session keeps that it starts; or it does not.
abbrev pub FoundAs : Network → State → Operation → ℕ → Tree Value → Option ℕ → Type 0
FoundAs N G o n m (Some y) = (finds_session N G o n m ≡ true) × (y ≡ key_to_keep N o m)
FoundAs N G o n m None = finds_session N G o n m ≡ false

-- The message in l of any operation of service q, by its target t in the state that is read from s.
pub record Finds (file s : List ℕ) (q n : ℕ) (t : Target) (l : List ℕ) (x : Option ℕ) : Type 0 where
  pub tells : WellFormed file → q < service_count file → (o : Operation) → o.service ≡ q
      → target_as file t ≡ definition.target (network_of file) (read_state s) o n → IsTarget (target_as file t)
      → (m : Tree Value) → Message l m → FoundAs (network_of file) (read_state s) o n m x
