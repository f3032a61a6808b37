use Prim.Native.Nat.{◌-◌}
use Rattle.type_writing.proofs.+write_rest.Given as goal

-- The declarations that are left.
abbrev pub decreases-write_rest : goal.decreases-write_rest
decreases-write_rest l = l.total - l.n
