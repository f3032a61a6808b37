use Rattle.network.specs.Layout.{type_count}
use Prim.Native.Nat.{◌-◌}
use Rattle.check_types.proofs.+trees_under.Given as goal

abbrev pub decreases-trees_under : goal.decreases-trees_under
decreases-trees_under l = type_count l.file.now - l.r
