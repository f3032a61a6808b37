use Rattle.type_reading.specs.Tables.{word_from}
use Rattle.type_reading.proofs.Words.{Seen}
use Rattle.type_reading.proofs.is_seen.Given as goal

abbrev pub invariant-loop-i : goal.invariant-loop-i
invariant-loop-i l = Seen l.text l.stack l.base l.top (word_from l.text l.p) l.i
