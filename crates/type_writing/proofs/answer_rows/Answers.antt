use mathlib.Core.Path.{sym, subst}
use native.Mathlib.Omega.{arith}
use Rattle.type_writing.specs.Passes.{RowsTold}
use Rattle.type_writing.specs.Sums.{LargeTold, large-within}
use Rattle.type_writing.specs.TextPassLaws.{told-roomless, told-many, told-large, told-done}
use Rattle.type_writing.proofs.answer_rows.Goals as goal

pub returns-then-out-lt2048 : goal.returns-then-out-lt2048
returns-then-out-lt2048 c =
    subst (RowsTold c.args.text.now c.args.table.now c.args.n c.args.out.now c.args.out.now) (sym c.refused.ensures)
    (told-roomless c.args.text.now c.args.table.now c.args.n c.args.out.now c.if-out-lt2048.true)

pub returns-then-rows-gt256 : goal.returns-then-rows-gt256
returns-then-rows-gt256 c =
    subst (RowsTold c.args.text.now c.args.table.now c.args.n c.args.out.now c.args.out.now) (sym c.refused-then-rows-gt256.ensures)
    (told-many c.args.text.now c.args.table.now c.args.n c.args.out.now c.if-out-lt2048.false c.count_rows-rows.result c.count_rows-rows.ensures c.if-rows-gt256.true)

pub overflow_mul-r : goal.overflow_mul-r
overflow_mul-r c =
    let b = large-within c.args.table.now c.args.n 0 0 c.in-Some.r (subst (LargeTold c.args.table.now c.args.n) c.in-Some.is c.first_large.ensures) in
    omega (arith, b, c.count_rows-rows.ensures, c.if-rows-gt256.false)

pub returns-in-Some : goal.returns-in-Some
returns-in-Some c =
    subst (RowsTold c.args.text.now c.args.table.now c.args.n c.args.out.now c.args.out.now) (sym c.refused-in-Some.ensures)
    (told-large c.args.text.now c.args.table.now c.args.n c.args.out.now c.if-out-lt2048.false c.count_rows-rows.result c.count_rows-rows.ensures c.if-rows-gt256.false
    c.in-Some.r (subst (LargeTold c.args.table.now c.args.n) c.in-Some.is c.first_large.ensures))

pub returns-in-None : goal.returns-in-None
returns-in-None c =
    subst (RowsTold c.args.text.now c.args.table.now c.args.n c.args.out.now c.write_rows.new.out) (sym c.done.ensures)
    (told-done c.args.text.now c.args.table.now c.args.n c.args.out.now c.if-out-lt2048.false c.count_rows-rows.result c.count_rows-rows.ensures c.if-rows-gt256.false
    c.write_rows.new.out (subst (LargeTold c.args.table.now c.args.n) c.in-None.is c.first_large.ensures) c.write_rows.ensures)
