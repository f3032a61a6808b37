-- Forests and trees that stand at a position of a list of bytes: what the functions that walk over bytes say "for every tree that stands
-- here". The limits are the largest, those of session trees and environments; a message keeps to them too.
use Rattle.std.specs.Prelude.{◌≡◌, List, ◌++◌, Bool, true, ◌&&◌, ℕ, zero, suc, ◌+◌, ◌<◌, ◌≤◌, length, drop, leb}
use Rattle.tree_forest.specs.Forest.{Forest, end, node, Tree, node_of, Lookup, absent, present, find, Rising, nodes, levels}
use Rattle.tree_forest.specs.Path.{read}
use Rattle.scalar.specs.Value.{Value}
use Rattle.tree.specs.Encode.{root_count, payload, children, encode, rooted, Proper, SoundValues}
use Rattle.tree_forest.specs.Limits.{session_levels, session_nodes}
use Rattle.tree.specs.Ids.{is_path, path_from_ids, last_id}
use Rattle.std.specs.Prelude.{Option, Some, None}

-- At most d levels; ids rise strictly, are above `last` and fit u16; every value is one of its basic type. EncodeLaws (`Good-of`, `of-good`)
-- prove that this is `SoundValues`, `Rising` and at most d levels.
unfoldable pub Good : ℕ → ℕ → Forest Value → Type 0
Good d last end = Unit {0}
Good zero last (node i a ks rest) = ⊥
Good (suc d) last (node i a ks rest) = (last < i) × (i < 65536) × Proper a × Good d 0 ks × Good (suc d) i rest

-- The siblings f stand at `at`.
pub record Row (s : List ℕ) (at : ℕ) (f : Forest Value) : Type 0 where
  pub after : List ℕ
  pub last : ℕ
  pub bytes : drop at s ≡ encode f ++ after
  pub good : Good session_levels last f
  pub small : nodes f ≤ session_nodes

-- The tree t stands at `at` under the id i.
pub record Root (s : List ℕ) (at i : ℕ) (t : Tree Value) : Type 0 where
  pub after : List ℕ
  pub bytes : drop at s ≡ encode (node_of i t end) ++ after
  pub proper : Proper (payload t)
  pub good : Good session_levels 0 (children t)
  pub small : nodes (children t) ≤ session_nodes

-- What was looked up stands at p under the id i.
pub record Stood (s : List ℕ) (p i : ℕ) (l : Lookup Value) : Type 0 where
  pub there : Tree Value
  pub is : l ≡ present there
  pub root : Root s p i there

-- The answer says where what was looked up stands, or that there is none.
abbrev pub Spot : List ℕ → ℕ → Option ℕ → Lookup Value → Type 0
Spot s i (Some p) l = Stood s p i l
Spot s i None l = l ≡ absent

-- The tree that stands at `at`, if one does, ends at e.
pub record Ended (s : List ℕ) (at e : ℕ) : Type 0 where
  pub ends : (i : ℕ) (t : Tree Value) → Root s at i t → e ≡ at + length (encode (node_of i t end))

-- r says where the sibling with the id stands among the n siblings at `at`, if siblings stand there.
pub record Sought (s : List ℕ) (at n id : ℕ) (r : Option ℕ) : Type 0 where
  pub tells : (f : Forest Value) → Row s at f → root_count f ≡ n → Spot s id r (find id f)

-- r says where the child with the id stands below the tree at `at`, if one stands there.
pub record Below (s : List ℕ) (at id : ℕ) (r : Option ℕ) : Type 0 where
  pub tells : (i : ℕ) (t : Tree Value) → Root s at i t → Spot s id r (find id (children t))

-- r says where the path leads from the tree at the start, if one stands there.
pub record Followed (s ids : List ℕ) (r : Option ℕ) : Type 0 where
  pub tells : (i : ℕ) (t : Tree Value) → Root s 0 i t → is_path ids ≡ true → Spot s (last_id (path_from_ids ids)) r (read (path_from_ids ids) (children t))

-- b says whether the tree at the start of s, if a sound one stands there, keeps to the limits.
pub record Within (deep many : ℕ) (s : List ℕ) (b : Bool) : Type 0 where
  pub tells : (t : Tree Value) (after : List ℕ) → s ≡ encode (rooted t) ++ after → Proper (payload t) → SoundValues (children t) → Rising (children t) →
      b ≡ (leb (levels (children t)) deep && leb (nodes (children t)) many)
