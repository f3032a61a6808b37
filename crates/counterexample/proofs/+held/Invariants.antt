use Rattle.network.specs.Layout.{type_count}
use Prim.Native.Nat.{◌-◌}
use Rattle.counterexample.proofs.+held.Given as goal

abbrev pub decreases-held : goal.decreases-held
decreases-held l = type_count l.file.now - l.r
