use Rattle.scalar.specs.ScalarLaws.{plain-text}
use Rattle.move_evaluation.proofs.ValueLaws.{answer-laws}
use Rattle.move_evaluation.proofs.flag.Goals as goal

pub alone-requires : goal.alone-requires
alone-requires c = search plain-text depth 12

pub returns : goal.returns
returns c = search answer-laws depth 12
