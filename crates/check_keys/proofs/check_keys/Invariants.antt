use Rattle.check_keys.proofs.KeyLaws.{KeysAt}
use Rattle.check_keys.proofs.check_keys.Given as goal

abbrev pub invariant-loop-o : goal.invariant-loop-o
invariant-loop-o l = KeysAt l.file l.o l.n
