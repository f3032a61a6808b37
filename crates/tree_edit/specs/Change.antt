-- The byte form of a tree after a change. 01, Moves: "assign sets one root value and keeps children. Writing makes missing steps void.";
-- receive "replaces the subtree". Typing: "missing steps become mandatory void nodes".
use Rattle.std.specs.Prelude.{List, [], ◌∷◌, Bool, true, false, ℕ}
use Rattle.tree_forest.specs.Forest.{Forest, tree, Lookup, absent, present}
use Rattle.tree_forest.specs.Path.{Path, read, replace_at, set_payload_at}
use Rattle.scalar.specs.Basic.{raw, void}
use Rattle.scalar.specs.Value.{Value, value}
use Rattle.tree.specs.Encode.{encode, rooted}

-- What a missing step carries: in an environment the mark of a mandatory void type, else a void value.
abbrev pub missing_value : Bool → Value
missing_value true = value raw (1 ∷ void ∷ [])
missing_value false = value void []

-- The bytes of a tree with what stands below its root changed.
abbrev pub changed_bytes : (Forest Value → Forest Value) → Lookup Value → List ℕ
changed_bytes g absent = []
changed_bytes g (present (tree a F)) = encode (rooted (tree a (g F)))

-- The subtree at the path replaced by a tree.
abbrev pub replaced : Bool → Path → Lookup Value → Lookup Value → List ℕ
replaced typed x absent l = []
replaced typed x (present t) l = changed_bytes (replace_at (missing_value typed) x t) l

-- What the root of a tree carries set at the path, the children there kept.
abbrev pub assigned_bytes : Path → Lookup Value → Lookup Value → List ℕ
assigned_bytes x absent l = []
assigned_bytes x (present (tree a ks)) l = changed_bytes (set_payload_at (missing_value false) x a) l

-- What was found, as a tree alone; nothing where nothing was.
abbrev pub alone : Lookup Value → List ℕ
alone absent = []
alone (present t) = encode (rooted t)

-- The subtree at the path of a tree, as a tree alone.
abbrev pub subtree_of : Path → Lookup Value → List ℕ
subtree_of x absent = []
subtree_of x (present (tree a F)) = alone (read x F)
