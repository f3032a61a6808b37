use Rattle.check_behaviours.proofs.CheckLaws.{leaf-laws}
use Rattle.check_behaviours.proofs.notification.Goals as goal

pub returns : goal.returns
returns c = search leaf-laws depth 12
