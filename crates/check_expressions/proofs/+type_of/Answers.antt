use mathlib.Core.Path.{refl}
use native.Mathlib.Omega.{arith}
use borrow.Author.Rules.{rules}
use Rattle.std.proofs.lemmas.Result.{err_from_is_err_and}
use Rattle.network_row_parts.specs.PartLaws.{unary-falls, binary-falls}
use Rattle.check_expressions.proofs.TypingLaws.{constant-typed, value-typed, presence-typed, unary-typed}
use Rattle.check_expressions.proofs.TypingLaws.{left-refused, twice-typed, binary-typed, broken-typed}
use Rattle.check_expressions.proofs.+type_of.Goals as goal

pub type_of-requires : goal.type_of-requires
type_of-requires t c =
    let f = unary-falls c.args.file.now c.args.r c.part_of.ensures c.in-Unary.is in
    (omega (arith, c.requires), search rules)

pub type_of-requires-in-Binary : goal.type_of-requires-in-Binary
type_of-requires-in-Binary t c =
    let f = binary-falls c.args.file.now c.args.r c.part_of.ensures c.in-Binary.is in
    (omega (arith, c.requires), search rules)

pub type_of-requires-in-Binary-2 : goal.type_of-requires-in-Binary-2
type_of-requires-in-Binary-2 t c =
    let f = binary-falls c.args.file.now c.args.r c.part_of.ensures c.in-Binary.is in
    (omega (arith, c.requires), search rules)

pub returns-in-Constant : goal.returns-in-Constant
returns-in-Constant t c = search constant-typed depth 12

pub returns-in-ValueAt : goal.returns-in-ValueAt
returns-in-ValueAt t c = search value-typed depth 12

pub returns-in-Presence : goal.returns-in-Presence
returns-in-Presence t c = search presence-typed depth 12

pub returns-in-Broken : goal.returns-in-Broken
returns-in-Broken t c = search broken-typed depth 12

pub returns-in_err-x-in-Unary : goal.returns-in_err-x-in-Unary
returns-in_err-x-in-Unary t c =
    let p = err_from_is_err_and c.from_residual.result c.from_residual.ensures.1 in
    rw (p.1, p.2) (unary-typed _ _ _ _ c.part_of.ensures c.in-Unary.is c.in_err-x-in-Unary.ensures refl)

pub returns-in_err-x-in-Binary : goal.returns-in_err-x-in-Binary
returns-in_err-x-in-Binary t c =
    let p = err_from_is_err_and c.from_residual-in_err-x-in-Binary.result c.from_residual-in_err-x-in-Binary.ensures.1 in
    rw (p.1, p.2) (left-refused _ _ _ _ c.part_of.ensures c.in-Binary.is c.in_err-x-in-Binary.ensures)

pub returns-then-a-b : goal.returns-then-a-b
returns-then-a-b t c = twice-typed _ _ _ _ c.part_of.ensures c.in-Binary.is c.in_ok-x-in-Binary.ensures c.if-a-b.true c.binary.ensures

pub returns-in_err-y-in-Binary : goal.returns-in_err-y-in-Binary
returns-in_err-y-in-Binary t c =
    let p = err_from_is_err_and c.from_residual-in_err-y-in-Binary.result c.from_residual-in_err-y-in-Binary.ensures.1 in
    rw (p.1, p.2) (binary-typed _ _ _ _ c.part_of.ensures c.in-Binary.is c.in_ok-x-in-Binary.ensures c.in_err-y-in-Binary.ensures refl)

pub returns-in_ok-x-in-Unary : goal.returns-in_ok-x-in-Unary
returns-in_ok-x-in-Unary t c = search (unary-typed, c.in_ok-x-in-Unary.ensures) depth 12

pub returns-in_ok-y-in-Binary : goal.returns-in_ok-y-in-Binary
returns-in_ok-y-in-Binary t c = search (binary-typed, c.in_ok-x-in-Binary.ensures, c.in_ok-y-in-Binary.ensures) depth 12
