use Rattle.check_types.proofs.Heads.{line-laws}
use Rattle.check_types.proofs.line_at.Goals as goal

pub returns-then-type_count-r : goal.returns-then-type_count-r
returns-then-type_count-r c = search line-laws depth 12

pub returns-then-count-eq0 : goal.returns-then-count-eq0
returns-then-count-eq0 c = search line-laws depth 12

pub returns-then-first-r : goal.returns-then-first-r
returns-then-first-r c = search line-laws depth 12

pub returns : goal.returns
returns c = search line-laws depth 12
