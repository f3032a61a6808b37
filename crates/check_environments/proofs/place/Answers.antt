use Rattle.check_environments.proofs.Placing.{place-laws}
use Rattle.check_environments.proofs.place.Goals as goal

pub returns-then-row_under : goal.returns-then-row_under
returns-then-row_under c = search place-laws depth 12

pub returns-else-row_under : goal.returns-else-row_under
returns-else-row_under c = search place-laws depth 12

pub returns-in-Gap : goal.returns-in-Gap
returns-in-Gap c = search place-laws depth 12

pub returns-in-Loose : goal.returns-in-Loose
returns-in-Loose c = search place-laws depth 12
