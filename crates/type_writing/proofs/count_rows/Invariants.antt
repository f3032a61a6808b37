use Prim.Native.Nat.{◌+◌, ◌-◌, ◌≤◌}
use mathlib.Core.Path.{◌≡◌}
use Rattle.type_writing.specs.Sums.{table_rows}
use Rattle.type_writing.proofs.count_rows.Given as goal

abbrev pub invariant-loop-i : goal.invariant-loop-i
invariant-loop-i l = (l.rows ≤ 256) × (l.rows + table_rows l.table l.i (l.n - l.i) ≡ table_rows l.table 0 l.n)
