-- A path as four ids. 01, P: "four u16 ids; the first is not 0; after a 0 only 0".
use Rattle.std.specs.Prelude.{List, [], ◌∷◌, Bool, true, false, ◌&&◌, ℕ, ◌<◌, get_or, eqb}
use Rattle.tree_forest.specs.Path.{Path, path}
use Rattle.basics.specs.Choice.{pick}

-- The ids up to the first 0.
unfoldable pub steps : List ℕ → List ℕ
steps [] = []
steps (i ∷ is) = pick (eqb i 0) [] (i ∷ steps is)

-- The path that ids stand for. (Without ids it would be that of the id 0, which no node has.)
unfoldable pub path_from_ids : List ℕ → Path
path_from_ids [] = path 0 []
path_from_ids (i ∷ is) = path i (steps is)

-- Only 0.
unfoldable pub all_zeros : List ℕ → Bool
all_zeros [] = true
all_zeros (i ∷ is) = eqb i 0 && all_zeros is

-- "after a 0 only 0".
unfoldable pub ends_in_zeros : List ℕ → Bool
ends_in_zeros [] = true
ends_in_zeros (i ∷ is) = pick (eqb i 0) (all_zeros is) (ends_in_zeros is)

-- "the first is not 0; after a 0 only 0".
unfoldable pub is_path : List ℕ → Bool
is_path [] = false
is_path (i ∷ is) = pick (eqb i 0) false (ends_in_zeros is)

-- The last of the steps after i, or i where there is none.
unfoldable pub last_of : ℕ → List ℕ → ℕ
last_of i [] = i
last_of i (j ∷ js) = last_of j js

-- The id of the node that a path leads to.
abbrev pub last_id : Path → ℕ
last_id (path i is) = last_of i is

abbrev pub is_none : List ℕ → Bool
is_none [] = true
is_none (i ∷ is) = false

-- Every id fits u16.
pub record Words (ids : List ℕ) : Type 0 where
  pub small : (k : ℕ) → get_or ids k 0 < 65536
