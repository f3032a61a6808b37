use Rattle.network.specs.Layout.{type_count}
use Prim.Native.Nat.{◌-◌}
use Rattle.counterexample.proofs.+row_nodes.Given as goal

abbrev pub decreases-row_nodes : goal.decreases-row_nodes
decreases-row_nodes l = type_count l.file.now - l.r
