use Rattle.move_evaluation.proofs.ValueLaws.{operand-laws}
use borrow.Author.Rules.{rules}
use Rattle.move_evaluation.proofs.binary.Goals as goal

pub returns-then-both_given : goal.returns-then-both_given
returns-then-both_given c = search (operand-laws, rules) depth 12

pub returns-then-not-has_kind : goal.returns-then-not-has_kind
returns-then-not-has_kind c = search (operand-laws, rules) depth 12

pub returns-then-not-has_kind-2 : goal.returns-then-not-has_kind-2
returns-then-not-has_kind-2 c = search (operand-laws, rules) depth 12

pub returns : goal.returns
returns c = search (operand-laws, rules) depth 12
