use Rattle.move_receive.proofs.Storing.{after-laws}
use Rattle.move_receive.proofs.progress_after.Goals as goal

pub returns : goal.returns
returns c = search after-laws depth 12
