use Rattle.type_reading.specs.Tables.{word_from}
use Rattle.type_reading.proofs.Words.{Sought}
use Rattle.type_reading.proofs.find_type.Given as goal

abbrev pub invariant-loop-i : goal.invariant-loop-i
invariant-loop-i l = Sought l.text l.table l.n (word_from l.text l.p) l.i
