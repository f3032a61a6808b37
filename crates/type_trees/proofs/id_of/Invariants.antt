use Prim.Native.Nat.{◌+◌, ◌-◌}
use mathlib.Core.Path.{◌≡◌}
use Rattle.type_text.specs.Meaning.{id_of}
use Rattle.type_reading.specs.Tables.{word_from}
use Rattle.type_trees.specs.Names.{names_from, names_up_to}
use Rattle.type_trees.proofs.id_of.Given as goal

abbrev pub invariant-loop-i : goal.invariant-loop-i
invariant-loop-i l = id_of (names_up_to l.text l.names l.n) (word_from l.text l.p) ≡ l.i + id_of (names_from l.text l.names l.i (l.n - l.i)) (word_from l.text l.p)
