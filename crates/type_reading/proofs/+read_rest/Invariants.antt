use Prim.Native.Nat.{◌-◌}
use lib.ListN.{length}
use Rattle.type_reading.proofs.+read_rest.Given as goal

-- The bytes that are left.
abbrev pub decreases-read_rest : goal.decreases-read_rest
decreases-read_rest l = length l.text.now - l.at
