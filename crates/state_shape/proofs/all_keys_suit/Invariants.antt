use Rattle.state_shape.proofs.KeyLaws.{KeysUpward}
use Rattle.state_shape.proofs.all_keys_suit.Given as goal

abbrev pub invariant-loop-q : goal.invariant-loop-q
invariant-loop-q l = KeysUpward l.file l.s l.q
