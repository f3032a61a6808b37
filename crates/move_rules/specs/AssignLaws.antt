-- Whether a tree keeps to its limits does not depend on the value that is assigned.
use Rattle.std.specs.Prelude.{◌≡◌, refl, ◌+◌, max}
use Rattle.tree_forest.specs.Forest.{Forest}
use Rattle.tree_forest.specs.Path.{Path, set_payload_at}
use Rattle.tree_forest.specs.PathLaws.{payload-measure}
use Rattle.check_typing.specs.Environment.{within}

pub within-payload : {A : Type 0} (z : A) (x : Path) (a b : A) (F : Forest A) → within (set_payload_at z x a F) ≡ within (set_payload_at z x b F)
within-payload z x a b F = rw (payload-measure ◌+◌ z x a b F, payload-measure max z x a b F) refl
