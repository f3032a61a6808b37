use mathlib.Core.List.{List}
use Prim.Native.Nat.{ℕ, ◌-◌}
use mathlib.Core.Path.{ap, ◌∙◌}
use Rattle.wire.specs.Wire.{part}
use Rattle.type_text.specs.Grammar.{same_word}
use Rattle.type_words.proofs.Naming.{same-equal}
use Rattle.type_words.proofs.is_word_of.Goals as goal

pub returns : goal.returns
returns c = c.same_bytes.ensures ∙ same-equal _ _ ∙ ap (λ (w : List ℕ). same_word w (part c.args.text.now c.args.p (c.args.q - c.args.p))) c.word_of.ensures.0
