-- Where a path leads in the bytes of a tree, and the bytes spliced there: the code's way to the changes of Change.antt. proofs/Splicing
-- proves that splicing as planned gives the byte form of the changed tree.
use Rattle.std.specs.Prelude.{◌≡◌, List, [], ◌∷◌, ◌++◌, ℕ, ◌+◌, ◌/◌, ◌%◌, ◌<◌, ◌≤◌, length, get_or, take, drop, set, ltb}
use Rattle.tree_forest.specs.Forest.{Forest, end, node, Tree, tree, Lookup, absent, present}
use Rattle.tree_forest.specs.Path.{read, write}
use Rattle.scalar.specs.Value.{Value, value}
use Rattle.basics.specs.Choice.{pick}
use Rattle.tree.specs.Encode.{root_count, encode, rooted}
use Rattle.tree_forest.specs.Limits.{session_levels, session_nodes}
use Rattle.tree.specs.Decode.{decode}
use Rattle.tree.specs.Ids.{steps, path_from_ids}
use Rattle.tree.specs.Standing.{Row}
use Rattle.tree_edit.specs.declared.Plan.{Plan}
use Rattle.tree_edit.specs.declared.Plan.TheVariants.{Insert, Replace, Fail}

-- where the path i, is leads in the siblings that stand at `at`, the children of the node at `up`, with k steps taken
unfoldable pub plan_of : ℕ → ℕ → List ℕ → Forest Value → ℕ → ℕ → Plan
plan_of k i is end up at = Insert up at k
plan_of k i [] (node j (value c w) ls rest) up at =
    pick (ltb i j) (Insert up at k)
    (pick (ltb j i) (plan_of k i [] rest up (at + length (encode (node j (value c w) ls end))))
    (Replace at (at + 5 + length w) (at + length (encode (node j (value c w) ls end)))))
plan_of k i (x ∷ xs) (node j (value c w) ls rest) up at =
    pick (ltb i j) (Insert up at k)
    (pick (ltb j i) (plan_of k i (x ∷ xs) rest up (at + length (encode (node j (value c w) ls end))))
    (plan_of (k + 1) x xs ls at (at + 5 + length w)))

-- a node's bytes after its id
abbrev pub body : Tree Value → List ℕ
body (tree (value b v) ks) = b ∷ root_count ks ∷ length v ∷ (v ++ encode ks)

-- the bytes of new nodes for all steps but the last, and the last one's id
unfoldable pub prefix : Value → ℕ → List ℕ → List ℕ
prefix (value b v) i [] = i % 256 ∷ i / 256 ∷ []
prefix (value b v) i (j ∷ js) = i % 256 ∷ i / 256 ∷ b ∷ 1 ∷ length v ∷ (v ++ prefix (value b v) j js)

-- the bytes s with the node at the path given the body
unfoldable pub spliced : Value → List ℕ → List ℕ → Plan → List ℕ → List ℕ
spliced missing ids new (Insert up p k) s =
    set (take p s) (up + 3) (get_or s (up + 3) 0 + 1) ++ (prefix missing (get_or ids k 0) (steps (drop (k + 1) ids)) ++ (new ++ drop p s))
spliced missing ids new (Replace p m q) s = take (p + 2) s ++ (new ++ drop q s)
spliced missing ids new Fail s = s

-- r says where the path leads in the n siblings at `at`, if siblings stand there
pub record Led (s : List ℕ) (k i : ℕ) (is : List ℕ) (up at n : ℕ) (r : Plan) : Type 0 where
  pub leads : (f : Forest Value) → Row s at f → root_count f ≡ n → r ≡ plan_of k i is f up at

-- a gap at p below the node at `up`, which may have one child more, reached with k steps taken; nothing was found
pub record Gap (s : List ℕ) (up p k : ℕ) : Type 0 where
  pub step : k < 4
  pub above : up + 3 < p
  pub inside : p ≤ length s
  pub room : get_or s (up + 3) 0 < 255

-- a node from p to q whose children start at m
pub record Hit (s : List ℕ) (p m q : ℕ) : Type 0 where
  pub header : p + 5 ≤ m
  pub middle : m ≤ q
  pub inside : q ≤ length s

-- what was found has children ks, which stand at m
pub record ChildrenAt (s : List ℕ) (l : Lookup Value) (p m q : ℕ) : Type 0 where
  pub root : Value
  pub kids : Forest Value
  pub is : l ≡ present (tree root kids)
  pub many : get_or s (p + 3) 0 ≡ root_count kids
  pub after : drop m s ≡ encode kids ++ drop q s

-- a plan lies within the bytes and agrees with what was found
abbrev pub Inside : List ℕ → Lookup Value → Plan → Type 0
Inside s l (Insert up p k) = Gap s up p k × (l ≡ absent)
Inside s l (Replace p m q) = Hit s p m q × ChildrenAt s l p m q
Inside s l Fail = ⊥

-- r is the plan for a change at the path of the tree that s is
pub record Planned (s ids : List ℕ) (r : Plan) : Type 0 where
  pub root : Value
  pub kids : Forest Value
  pub decoded : decode session_levels session_nodes s ≡ present (tree root kids)
  pub inside : Inside s (read (path_from_ids ids) kids) r
  pub right : (missing : Value) (g : Lookup Value → Tree Value) →
      spliced missing ids (body (g (read (path_from_ids ids) kids))) r s ≡ encode (rooted (tree root (write missing (path_from_ids ids) g kids)))
