-- A change of a tree, and whether it keeps to the limits. 01, 18: "an assign, a receive or a message .. would take a tree past 48 nodes or
-- 6 levels"; 12: "Γ passes 48 nodes or 6 levels". The size is counted after the change, when the old subtree is gone.
use Rattle.std.specs.Prelude.{◌≡◌, List, Bool, false, ◌&&◌, ℕ, take, leb}
use Rattle.tree_forest.specs.Forest.{Forest, end, Tree, tree, present, nodes, levels}
use Rattle.tree_forest.specs.Path.{replace_at, set_payload_at}
use Rattle.scalar.specs.Value.{Value}
use Rattle.tree.specs.Encode.{children, encode, rooted, Encodes}
use Rattle.tree_forest.specs.Limits.{session_levels, session_nodes}
use Rattle.tree.specs.Decode.{decode}
use Rattle.tree.specs.Ids.{path_from_ids}
use Rattle.tree_edit.specs.Wrote.{Wrote}
use Rattle.tree_edit.specs.Change.{missing_value}
use Rattle.std.specs.Prelude.{Result, Ok, Err}

-- "48 nodes", "6 levels", below the root.
abbrev pub is_within_limits : Tree Value → Bool
is_within_limits t = leb (levels (children t)) session_levels && leb (nodes (children t)) session_nodes

-- The buffer holds the bytes of the changed tree t, and the answer says whether it keeps to the limits.
pub record KeptWithin (o o' : List ℕ) (r : ℕ) (t : Tree Value) : Type 0 where
  pub wrote : Wrote o o' 0 r r (encode (rooted t))
  pub encodes : Encodes session_levels session_nodes (take r o') t

pub record PastLimits (o o' : List ℕ) (r : ℕ) (t : Tree Value) : Type 0 where
  pub wrote : Wrote o o' 0 r r (encode (rooted t))
  pub large : is_within_limits t ≡ false

abbrev pub Outcome : List ℕ → List ℕ → Result ℕ ℕ → Tree Value → Type 0
Outcome o o' (Ok r) t = KeptWithin o o' r t
Outcome o o' (Err r) t = PastLimits o o' r t

-- v is the outcome of replacing the subtree at the path of s by the tree of m.
pub record PutOutcome (typed : Bool) (ids s m o o' : List ℕ) (v : Result ℕ ℕ) : Type 0 where
  pub tells : (a : Value) (f : Forest Value) (t : Tree Value) → decode session_levels session_nodes s ≡ present (tree a f)
      → decode session_levels session_nodes m ≡ present t → Outcome o o' v (tree a (replace_at (missing_value typed) (path_from_ids ids) t f))

-- v is the outcome of setting the value of the leaf m at the path of s.
pub record SetOutcome (ids s m o o' : List ℕ) (v : Result ℕ ℕ) : Type 0 where
  pub tells : (a : Value) (f : Forest Value) (b : Value) → decode session_levels session_nodes s ≡ present (tree a f) → decode 0 0 m ≡ present (tree b end) →
      Outcome o o' v (tree a (set_payload_at (missing_value false) (path_from_ids ids) b f))
