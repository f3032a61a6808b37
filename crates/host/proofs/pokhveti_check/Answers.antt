use mathlib.Core.Path.{◌∙◌}
use Rattle.host.proofs.Answers.{answer-numbers}
use Rattle.host.proofs.pokhveti_check.Goals as goal

pub returns : goal.returns
returns c = let both = answer-numbers _ (c.check.ensures.value, c.check.ensures.if_passed) (c.from.ensures ∙ c.number.ensures) c.place.ensures in record { value = both.0; place_after = both.1 }
