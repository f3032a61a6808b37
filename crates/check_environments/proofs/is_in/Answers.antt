use Rattle.check_environments.proofs.Firmness.{in-by}
use Rattle.check_environments.proofs.is_in.Goals as goal

pub returns : goal.returns
returns c = rw c.is_some.ensures (in-by _ _ _ _ c.path_row.ensures _ c.follow.ensures)
