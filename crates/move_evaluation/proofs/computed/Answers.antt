use Rattle.std.proofs.Common.{rules}
use Rattle.scalar.specs.ScalarLaws.{plain-text}
use Rattle.move_evaluation.proofs.ValueLaws.{answer-laws}
use Rattle.move_evaluation.proofs.computed.Goals as goal

pub alone-requires : goal.alone-requires
alone-requires c = search plain-text depth 12

pub returns-in-Ok : goal.returns-in-Ok
returns-in-Ok c = search (answer-laws, rules) depth 12

pub returns-in-Err-Wrong : goal.returns-in-Err-Wrong
returns-in-Err-Wrong c = search (answer-laws, rules) depth 12

pub returns-in-Err-Outside : goal.returns-in-Err-Outside
returns-in-Err-Outside c = search (answer-laws, rules) depth 12
