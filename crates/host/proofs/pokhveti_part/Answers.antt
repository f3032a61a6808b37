use Rattle.host.proofs.Answers.{part-numbers}
use Rattle.host.proofs.pokhveti_part.Goals as goal

pub returns : goal.returns
returns c = let both = part-numbers c.part_span-span.ensures in record { value = both.0; start_after = both.1 }
