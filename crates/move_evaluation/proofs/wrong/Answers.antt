use Rattle.move_evaluation.proofs.ValueLaws.{none-wrong}
use Rattle.move_evaluation.proofs.wrong.Goals as goal

pub returns : goal.returns
returns c = search none-wrong depth 12
