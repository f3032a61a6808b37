use native.Mathlib.Omega.{arith}
use Rattle.move_send.proofs.RowLaws.{row-past, row_other, row-not-undone, row-not-permitted, row-sends}
use borrow.Author.Rules.{rules}
use borrow.Enum.Refused.{opened}
use Rattle.std.proofs.lemmas.Bool.{not_from_true, not_from_false}
use Rattle.std.proofs.Common.{◌≡◌}
use Rattle.std.specs.Prelude.{None}
use Rattle.move_send.proofs.sending_at.Goals as goal

pub returns-then-i-gt255 : goal.returns-then-i-gt255
returns-then-i-gt255 c = row-past c.args.file.now c.args.state.now c.args.slot c.args.q c.args.i c.if-i-gt255.true

pub returns-in_err-o : goal.returns-in_err-o
returns-in_err-o c =
    let z : c.from_residual.result ≡ None = search rules in
    rw z (row_other c.args.file.now c.args.state.now c.args.slot c.args.q c.args.i c.output_at.ensures c.in_err-o.was)

pub returns-in_default : goal.returns-in_default
returns-in_default c = row-not-undone c.args.file.now c.args.state.now c.args.slot c.args.q c.args.i c.output_at.ensures c.in_ok-o.was c.row_progress.result c.row_progress.ensures (opened c.in_default.in_default-own.keys2)

pub returns-then-not-permits : goal.returns-then-not-permits
returns-then-not-permits c = row-not-permitted c.args.file.now c.args.state.now c.args.slot c.args.q c.args.i c.output_at.ensures c.in_ok-o.was c.row_progress.result c.row_progress.ensures c.in-Undone.is c.permits.ensures (not_from_false _ c.if-not-permits.true)

pub returns : goal.returns
returns c =
    row-sends c.args.file.now c.args.state.now c.args.slot c.args.q c.args.i c.output_at.ensures c.in_ok-o.was c.row_progress.result c.row_progress.ensures c.in-Undone.is c.permits.ensures (not_from_true _ c.if-not-permits.false) (omega (
      arith,
      c.if-i-gt255.false,
    ))
