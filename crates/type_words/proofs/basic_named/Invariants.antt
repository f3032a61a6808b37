use mathlib.Core.Path.{◌≡◌}
use Prim.Native.Nat.{◌-◌}
use Rattle.wire.specs.Wire.{part}
use Rattle.type_text.specs.Reader.{basic_below, basic_named}
use Rattle.type_words.proofs.basic_named.Given as goal

abbrev pub invariant-loop-n : goal.invariant-loop-n
invariant-loop-n l = basic_below l.n (part l.text l.p (l.q - l.p)) ≡ basic_named (part l.text l.p (l.q - l.p))
