-- Paths, and what stands at the end of one: reading and writing. 01, P: "four u16 ids; the first is not 0; after a 0 only 0";
-- Moves: "assign sets one root value and keeps children. Writing makes missing steps void."; receive "replaces the subtree".
use Rattle.std.specs.Prelude.{List, [], ◌∷◌, ℕ}
use Rattle.tree_forest.specs.Forest.{Forest, Tree, tree, Lookup, find, set, children_of, payload_of}

-- A path: its first id and the ids after it.
pub data Path : Type 0 where
  path : ℕ → List ℕ → Path

-- 01: "root id (a path's first id)".
abbrev pub root_id : Path → ℕ
root_id (path i is) = i

module _ {A : Type 0} where
  -- What stands at the end of the steps below what was found.
  unfoldable pub read_steps : List ℕ → Lookup A → Lookup A
  read_steps [] l = l
  read_steps (j ∷ p) l = read_steps p (find j (children_of l))

  -- What stands at the path.
  abbrev pub read : Path → Forest A → Lookup A
  read (path i p) F = read_steps p (find i F)

  -- What was found, with what stands at the end of the steps below it changed by f. A missing step carries `missing`.
  unfoldable pub write_steps : A → List ℕ → (Lookup A → Tree A) → Lookup A → Tree A
  write_steps missing [] f l = f l
  write_steps missing (j ∷ p) f l =
      tree (payload_of missing l) (set j (write_steps missing p f (find j (children_of l))) (children_of l))

  -- The forest with what stands at the path changed by f.
  abbrev pub write : A → Path → (Lookup A → Tree A) → Forest A → Forest A
  write missing (path i p) f F = set i (write_steps missing p f (find i F)) F

  -- The subtree at the path replaced.
  abbrev pub replace_at : A → Path → Tree A → Forest A → Forest A
  replace_at missing x t F = write missing x (λ l. t) F

  -- What the node at the path carries set, its children kept.
  abbrev pub set_payload_at : A → Path → A → Forest A → Forest A
  set_payload_at missing x a F = write missing x (λ l. tree a (children_of l)) F
