use Prim.Native.Nat.{◌-◌}
use lib.ListN.{length}
use Rattle.type_reading.proofs.+read_list_read_tree.Given as goal

-- The bytes that are left.
abbrev pub decreases-read_list : goal.decreases-read_list
decreases-read_list l = length l.text.now - l.at

abbrev pub decreases-read_tree : goal.decreases-read_tree
decreases-read_tree l = length l.text.now - l.at
