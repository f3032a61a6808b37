use Rattle.move_evaluation.proofs.ValueLaws.{none-missing}
use Rattle.move_evaluation.proofs.absent.Goals as goal

pub returns : goal.returns
returns c = search none-missing depth 12
