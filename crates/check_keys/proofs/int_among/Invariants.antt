use Rattle.check_keys.proofs.KeyLaws.{AmongAt}
use Rattle.check_keys.proofs.int_among.Given as goal

abbrev pub invariant-loop-t : goal.invariant-loop-t
invariant-loop-t l = AmongAt l.file l.k l.r l.n l.t
