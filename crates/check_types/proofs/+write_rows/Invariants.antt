use Rattle.network.specs.Layout.{type_count}
use Prim.Native.Nat.{◌-◌}
use Rattle.check_types.proofs.+write_rows.Given as goal

abbrev pub decreases-write_rows : goal.decreases-write_rows
decreases-write_rows l = type_count l.file.now - l.r
