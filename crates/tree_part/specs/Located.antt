-- What the walk over siblings says "for every forest that stands here".
use Rattle.std.specs.Prelude.{◌≡◌, List, ℕ, ◌+◌}
use Rattle.tree_forest.specs.Forest.{Forest, Lookup, absent, present, find}
use Rattle.tree_forest.specs.Path.{read_steps}
use Rattle.scalar.specs.Value.{Value}
use Rattle.tree.specs.Encode.{root_count}
use Rattle.tree.specs.Standing.{Row}
use Rattle.tree_part.specs.Span.{earlier, offset}
use Rattle.std.specs.Prelude.{Option, Some, None}

-- At p, where something was found.
abbrev pub found_at : ℕ → Lookup Value → Option ℕ
found_at p absent = None
found_at p (present t) = Some p

-- Where the path i, is leads among the siblings f that stand at `at`.
unfoldable pub child_place : ℕ → List ℕ → Forest Value → ℕ → Option ℕ
child_place i is f at = found_at (at + (earlier i f + offset is (find i f))) (read_steps is (find i f))

-- r says where the path i, is leads among the n siblings at `at`, if siblings stand there.
pub record Located (s : List ℕ) (i : ℕ) (is : List ℕ) (at n : ℕ) (r : Option ℕ) : Type 0 where
  pub tells : (f : Forest Value) → Row s at f → root_count f ≡ n → r ≡ child_place i is f at
