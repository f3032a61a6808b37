use mathlib.Core.Path.{◌∙◌}
use Rattle.host.proofs.Answers.{fresh-numbers}
use Rattle.host.proofs.pokhveti_fresh.Goals as goal

pub returns : goal.returns
returns c =
    let both = fresh-numbers (c.fresh-answer.ensures.value, c.fresh-answer.ensures.state_after) (c.from.ensures ∙ c.number.ensures) c.place.ensures in
    record { says = both.0; state_after = both.1 }
