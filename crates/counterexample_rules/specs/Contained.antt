-- A forest of least values that is contained in another: each of its nodes is there too, with a value of the same basic type that is not lower.
use Rattle.std.specs.Prelude.{◌≡◌, List, ◌⊎◌, ℕ, ◌<◌, length}
use Rattle.tree_forest.specs.Forest.{Forest, end, node}
use Rattle.scalar.specs.Value.{Value, value}
use Rattle.counterexample_rules.specs.OrderLaws.{AtMost}

-- A value's bytes with their length before them are at most another's.
abbrev pub ValueAtMost : List ℕ → List ℕ → Type 0
ValueAtMost v w = (length v < length w) ⊎ ((length v ≡ length w) × AtMost v w)

pub data Contained : Forest Value → Forest Value → Type 0 where
  nothing : Contained end end
  without : {i : ℕ} {a : Value} {c k r : Forest Value} → Contained c r → Contained c (node i a k r)
  with : {i b : ℕ} {v w : List ℕ} {k l r s : Forest Value} → ValueAtMost v w → Contained k l → Contained r s
      → Contained (node i (value b v) k r) (node i (value b w) l s)
