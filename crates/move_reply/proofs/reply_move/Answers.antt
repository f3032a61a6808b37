use native.Mathlib.Omega.{arith}
use Rattle.move_frame.specs.MadeLaws.{slot-inside}
use Rattle.move_reply.proofs.AnswerLaws.{move-nothing, move-not-allowed, move-outside, move-inside, move-not-received, replying-small}
use borrow.Author.Rules.{rules}
use borrow.Enum.Refused.{opened}
use Rattle.move_reply.proofs.reply_move.Goals as goal

pub returns-in_default : goal.returns-in_default
returns-in_default c =
    move-nothing c.args.file.now c.args.state.now c.args.out.now c.args.q c.args.n c.args.r
    c.session_at.ensures c.in_default.is c.refused.ensures

pub replying_at-requires : goal.replying_at-requires
replying_at-requires c =
    let h = slot-inside c.session_at.ensures c.in-Some.is in
    omega (arith, h)

pub returns-in_default-replying_at : goal.returns-in_default-replying_at
returns-in_default-replying_at c =
    move-not-allowed c.args.file.now c.args.state.now c.args.out.now c.args.q c.args.n c.args.r
    c.session_at.ensures c.in-Some.is c.replying_at.ensures c.in_default-replying_at.is c.refused-in_default-replying_at.ensures

pub row_progress-requires : goal.row_progress-requires
row_progress-requires c =
    let h = slot-inside c.session_at.ensures c.in-Some.is in
    omega (arith, h)

pub returns-in_default-row_progress : goal.returns-in_default-row_progress
returns-in_default-row_progress c =
    move-not-received c.args.file.now c.args.state.now c.args.out.now c.args.q c.args.n c.args.r
    c.session_at.ensures c.in-Some.is c.replying_at.ensures c.in-Some-replying_at.is
    c.row_progress.result c.row_progress.ensures (opened c.in_default-row_progress.in_default-row_progress-own.keys2) c.refused-in_default-row_progress.ensures

pub reply_outside-requires : goal.reply_outside-requires
reply_outside-requires c =
    let h =
    (slot-inside c.session_at.ensures c.in-Some.is) in (
      omega (arith, h),
      (replying-small c.replying_at.ensures c.in-Some-replying_at.is),
    )

pub reply_inside-requires : goal.reply_inside-requires
reply_inside-requires c = (
  search rules,
  (slot-inside c.session_at.ensures c.in-Some.is),
  (replying-small c.replying_at.ensures c.in-Some-replying_at.is),
)

pub returns-in-Outsider : goal.returns-in-Outsider
returns-in-Outsider c =
    move-outside c.args.file.now c.args.state.now c.args.out.now c.args.q c.args.n c.args.r
    c.session_at.ensures c.in-Some.is c.replying_at.ensures c.in-Some-replying_at.is
    _ c.row_progress.ensures c.in-Received.is c.in-Outsider.is c.reply_outside.ensures

pub returns-in-WaitingRow : goal.returns-in-WaitingRow
returns-in-WaitingRow c =
    move-inside c.args.file.now c.args.state.now c.args.out.now c.args.q c.args.n c.args.r
    c.session_at.ensures c.in-Some.is c.replying_at.ensures c.in-Some-replying_at.is
    _ c.row_progress.ensures c.in-Received.is c.in-WaitingRow.is c.from.ensures c.from-in-WaitingRow.ensures
    c.reply_inside.ensures
