use borrow.Author.Rules.{rules}
use Rattle.network_row_parts.specs.PartLaws.{unary-falls, binary-falls}
use native.Mathlib.Omega.{arith}
use Rattle.move_evaluation.proofs.EvaluationLaws.{row_laws}
use Rattle.move_evaluation.proofs.+evaluate.Goals as goal

pub evaluate-x-requires : goal.evaluate-x-requires
evaluate-x-requires t c =
    let f = unary-falls c.args.file.now c.args.r c.part_of.ensures c.in-Unary.is in
    (omega (arith, c.requires), search rules)

pub evaluate-x-requires-in-Binary : goal.evaluate-x-requires-in-Binary
evaluate-x-requires-in-Binary t c =
    let f = binary-falls c.args.file.now c.args.r c.part_of.ensures c.in-Binary.is in
    (omega (arith, c.requires), search rules)

pub evaluate-y-requires : goal.evaluate-y-requires
evaluate-y-requires t c =
    let f = binary-falls c.args.file.now c.args.r c.part_of.ensures c.in-Binary.is in
    (omega (arith, c.requires), search rules)

pub returns-in-Constant : goal.returns-in-Constant
returns-in-Constant t c = search row_laws depth 12

pub returns-in-ValueAt : goal.returns-in-ValueAt
returns-in-ValueAt t c = search row_laws depth 12

pub returns-in-Presence : goal.returns-in-Presence
returns-in-Presence t c = search row_laws depth 12

pub returns-in-Unary : goal.returns-in-Unary
returns-in-Unary t c = search row_laws depth 12

pub returns-in-Binary : goal.returns-in-Binary
returns-in-Binary t c = search row_laws depth 12

pub returns-in-Broken : goal.returns-in-Broken
returns-in-Broken t c = search row_laws depth 12
