-- Sessions by key. 02: "A started session keeps the key of its first message. A message goes only to the live session 1 to 3 with its key, or
-- starts one where no live session has it; another target, and any target of a message without that int, is 15".
use Rattle.std.specs.Prelude.{Bool, true, false, not, ◌&&◌, ◌||◌, ℕ, eqb}
use Rattle.basics.specs.Choice.{pick}
use Rattle.wire.specs.Wire.{unsigned_of}
use Rattle.scalar.specs.Basic.{int}
use Rattle.scalar.specs.Value.{Value, value}
use Rattle.tree_forest.specs.Forest.{Tree, tree, Lookup, absent, present, find}
use Rattle.network_syntax.specs.Syntax.{Optional, none, some, Network, Operation}
use Rattle.network_syntax.specs.Keys.{key_id, is_keyed}
use Rattle.state.specs.Session.{Slot, free, live, State}
use Rattle.move_rules.specs.Targets.{Target, no_target, queue_full, queued, starts, target}

-- An int, as a u32.
abbrev pub int_of : Lookup Value → Optional ℕ
int_of absent = none
int_of (present (tree (value b v) l)) = pick (eqb b int) (some (unsigned_of v)) none

-- The key of a message: the int child of its root with the key id k.
abbrev pub key_of : ℕ → Tree Value → Optional ℕ
key_of k (tree v l) = int_of (find k l)

abbrev pub key_or_zero : Optional ℕ → ℕ
key_or_zero none = 0
key_or_zero (some x) = x

-- "A started session keeps the key of its first message", one for the input o; 0 where its service is not keyed.
abbrev pub key_to_keep : Network → Operation → Tree Value → ℕ
key_to_keep N o m = pick (is_keyed N o.service) (key_or_zero (key_of (key_id N o.service) m)) 0

-- The session of the slot is live and holds the key x.
abbrev pub live_with : ℕ → Slot → Bool
live_with x free = false
live_with x (live S) = eqb S.key x

-- "the live session 1 to 3 with its key, or starts one where no live session has it": g has the sessions of the service.
abbrev pub finds_by_key : (ℕ → Slot) → ℕ → Target → ℕ → Bool
finds_by_key g n no_target x = false
finds_by_key g n queue_full x = false
finds_by_key g n queued x = not (eqb n 0) && live_with x (g n)
finds_by_key g n (starts c k i) x = not (live_with x (g 1) || (live_with x (g 2) || live_with x (g 3)))

abbrev pub finds_by : (ℕ → Slot) → ℕ → Target → Optional ℕ → Bool
finds_by g n t none = false
finds_by g n t (some x) = finds_by_key g n t x

-- May the message m for the input o go to the session n? In a service that is not keyed any target will do.
abbrev pub finds_session : Network → State → Operation → ℕ → Tree Value → Bool
finds_session N G o n m =
    pick (is_keyed N o.service) (finds_by (G o.service) n (target N G o n) (key_of (key_id N o.service) m)) true
