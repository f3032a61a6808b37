use Prim.Native.Nat.{◌+◌, ◌-◌}
use mathlib.Core.Path.{◌≡◌}
use Rattle.type_writing.specs.Sums.{table_rows, table_large}
use Rattle.type_writing.proofs.first_large.Given as goal

abbrev pub invariant-loop-i : goal.invariant-loop-i
invariant-loop-i l = (l.row + table_rows l.table l.i (l.n - l.i) ≡ table_rows l.table 0 l.n) × (table_large l.table l.i (l.n - l.i) l.row ≡ table_large l.table 0 l.n 0)
