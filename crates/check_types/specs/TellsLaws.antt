-- What is told of a message: its bytes stand at the start.
use Rattle.std.specs.Prelude.{◌≡◌, List, Bool, ℕ, ◌<◌}
use Rattle.std.proofs.Common.{arith}
use Rattle.tree_forest.specs.Forest.{Tree}
use Rattle.scalar.specs.Value.{Value}
use Rattle.check_subtyping.specs.Own.{fits}
use Rattle.network.specs.Form.{WellFormed}
use Rattle.network.specs.Layout.{type_count}
use Rattle.network.specs.Decode.{type_of}
use Rattle.tree.specs.Encode.{Message}
use Rattle.tree_forest.specs.Limits.{message_levels_below, message_nodes_below}
use Rattle.tree.specs.StandingLaws.{encodes-root}
use Rattle.check_types.specs.Tells.{FitsRow}

pub fits-message : {s file : List ℕ} {r : ℕ} {x : Bool} → FitsRow s file r x → (t : Tree Value) → Message s t → WellFormed file → r < type_count file →
    x ≡ fits t (type_of file r)
fits-message {s} h t m wf le = h.tells 0 t wf le (encodes-root message_levels_below message_nodes_below s t (omega arith) (omega arith) m)
