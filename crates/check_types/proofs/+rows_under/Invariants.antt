use Rattle.network.specs.Layout.{type_count}
use Prim.Native.Nat.{◌+◌, ◌-◌, ◌*◌}
use Rattle.check_types.proofs.+rows_under.Given as goal

abbrev pub decreases-rows_under : goal.decreases-rows_under
decreases-rows_under l = 256 * (type_count l.file.now - l.r) + l.m
