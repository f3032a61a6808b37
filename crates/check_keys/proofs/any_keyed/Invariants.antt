use Rattle.check_keys.proofs.KeyLaws.{KeyedAt}
use Rattle.check_keys.proofs.any_keyed.Given as goal

abbrev pub invariant-loop-q : goal.invariant-loop-q
invariant-loop-q l = KeyedAt l.file l.q l.n
