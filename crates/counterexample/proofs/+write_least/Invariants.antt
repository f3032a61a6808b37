use Rattle.network.specs.Layout.{type_count}
use Prim.Native.Nat.{◌-◌}
use Rattle.counterexample.proofs.+write_least.Given as goal

abbrev pub decreases-write_least : goal.decreases-write_least
decreases-write_least l = type_count l.file.now - l.r
