use Rattle.move_evaluation.proofs.ValueLaws.{operand-laws}
use borrow.Author.Rules.{rules}
use Rattle.move_evaluation.proofs.unary.Goals as goal

pub returns-then-is_ok : goal.returns-then-is_ok
returns-then-is_ok c = search (operand-laws, rules) depth 12

pub returns-then-not-has_kind : goal.returns-then-not-has_kind
returns-then-not-has_kind c = search (operand-laws, rules) depth 12

pub returns : goal.returns
returns c = search (operand-laws, rules) depth 12
