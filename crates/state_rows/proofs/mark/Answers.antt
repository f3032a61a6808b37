use Rattle.state_rows.proofs.MarkLaws.{mark-laws}
use Rattle.state_rows.proofs.mark.Goals as goal

pub returns-then-r-lt256 : goal.returns-then-r-lt256
returns-then-r-lt256 c = search mark-laws depth 12

pub returns-else-r-lt256 : goal.returns-else-r-lt256
returns-else-r-lt256 c = search mark-laws depth 12
