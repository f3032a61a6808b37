-- The types of a file's rows are within the limits.
use Rattle.std.specs.Prelude.{List, ℕ, ◌<◌}
use Rattle.tree_forest.specs.Forest.{end, node, tree}
use Rattle.network_syntax.specs.Syntax.{mark, Types, MessageType}
use Rattle.tree.specs.Encode.{Octets}
use Rattle.network.specs.Form.{WellFormed}
use Rattle.network.specs.Layout.{type_count}
use Rattle.network.specs.Decode.{type_of}
use Rattle.network.specs.Shapes.{TypeShape}
use Rattle.network.proofs.DecodeLaws.{type-shape}
use Rattle.check_subtyping.specs.Subtype.{root_children}
use Rattle.check_types.specs.Image.{InRange}
use Rattle.check_types.specs.TypeRowsLaws.{type-keeps}
use Rattle.counterexample_rules.specs.Smallest.{IdsBelow, TypeWithin}

ids-in-range : (k : Types) → InRange k → IdsBelow k
unfolding InRange IdsBelow
ids-in-range end h = tt
ids-in-range (node i (mark m b) k r) h = (h.1, ids-in-range k h.3, ids-in-range r h.4)

within_of : (t : MessageType) → TypeShape t → InRange (root_children t) → TypeWithin t
within_of (tree a k) w h = record { shape = w; ids = ids-in-range k h }

pub row_within : (file : List ℕ) → Octets file → WellFormed file → (r : ℕ) → r < type_count file → TypeWithin (type_of file r)
row_within file o w r l = within_of (type_of file r) (type-shape file w r l) (type-keeps file o w r l).ranged
