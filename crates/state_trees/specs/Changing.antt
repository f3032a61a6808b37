-- What the functions say of a session's changed tree, for every slot that holds a live session. 01, 18: "an assign, a receive or a message
-- that passes 19 would take a tree past 48 nodes or 6 levels".
use Rattle.std.specs.Prelude.{◌≡◌, true, false, List, ℕ, ◌≤◌, ◌<◌, length, take}
use Rattle.tree_forest.specs.Forest.{Forest, end, Tree, tree}
use Rattle.tree_forest.specs.Path.{replace_at, set_payload_at}
use Rattle.scalar.specs.Value.{Value}
use Rattle.tree.specs.Encode.{WellFormedTree, Encodes, Message, empty}
use Rattle.tree_forest.specs.Limits.{message_levels_below, message_nodes_below, session_levels, session_nodes}
use Rattle.tree.specs.Ids.{is_path, path_from_ids}
use Rattle.network.specs.Form as form
use Rattle.network.specs.Decode as network
use Rattle.network.specs.Layout.{path_count}
use Rattle.check_typing.specs.Environment.{within}
use Rattle.state.specs.Places.{tree_room}
use Rattle.state.specs.Session.{Session}
use Rattle.state.specs.Bytes.{tree_bytes}
use Rattle.scalar.specs.Value.{void_value}
use Rattle.state_slots.specs.Living.{Living}
use Rattle.std.specs.Prelude.{Option, Some, None}
use Rattle.std.specs.Prelude.{Result, Ok, Err}

-- The first n bytes are those of the tree F, which keeps to its limits.
pub record KeptTree (o : List ℕ) (n : ℕ) (F : Forest Value) : Type 0 where
  pub bytes : take n o ≡ tree_bytes F
  pub size : n ≡ length (tree_bytes F)
  pub small : n ≤ 1024
  pub room : n ≤ length o
  pub made : WellFormedTree session_levels session_nodes (tree empty F)
  pub fits : within F ≡ true

abbrev pub ChangedTo : List ℕ → Option ℕ → Forest Value → Type 0
ChangedTo o (Some n) F = KeptTree o n F
ChangedTo o None F = within F ≡ false

-- How many bytes a kept tree takes: there is room for them in a slot.
abbrev pub kept_bytes : Option ℕ → ℕ
kept_bytes (Some n) = n
kept_bytes None = 0

-- The subtree at the path replaced by the message m.
pub record Replaces (s : List ℕ) (slot : ℕ) (ids m o : List ℕ) (x : Option ℕ) : Type 0 where
  pub tells : (S : Session) (t : Tree Value) → Living s slot S → is_path ids ≡ true → Encodes message_levels_below message_nodes_below m t
      → ChangedTo o x (replace_at void_value (path_from_ids ids) t S.tree)
  pub small : kept_bytes x ≤ tree_room

-- The same at the path of P row p.
pub record ReplacesAt (file : List ℕ) (p : ℕ) (s : List ℕ) (slot : ℕ) (m o : List ℕ) (x : Option ℕ) : Type 0 where
  pub tells : form.WellFormed file → p < path_count file → (S : Session) (t : Tree Value) → Living s slot S → Message m t
      → ChangedTo o x (replace_at void_value (network.path_of file p) t S.tree)
  pub small : kept_bytes x ≤ tree_room

-- The value of the leaf m set at the path.
pub record SetsLeaf (s : List ℕ) (slot : ℕ) (ids m o : List ℕ) (x : Option ℕ) : Type 0 where
  pub tells : (S : Session) (b : Value) → Living s slot S → is_path ids ≡ true → Encodes 0 0 m (tree b end)
      → ChangedTo o x (set_payload_at void_value (path_from_ids ids) b S.tree)

-- What is made of a writer's answer.
abbrev pub change_of : Result ℕ ℕ → Option ℕ → Type 0
change_of (Ok n) (Some k) = (k ≡ n) × (n ≤ tree_room)
change_of (Ok n) None = 1025 ≤ n
change_of (Err n) (Some k) = ⊥
change_of (Err n) None = Unit {0}

pub record KeptAs (v : Result ℕ ℕ) (x : Option ℕ) : Type 0 where
  pub tells : change_of v x
