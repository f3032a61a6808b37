use native.Mathlib.Omega.{arith}
use Rattle.move_frame.specs.MadeLaws.{slot-inside}
use Rattle.move_outer.proofs.OuterLaws.{outer-nothing, outer-not-waiting, outer-inside, outer-not, outer-taken, row_small}
use borrow.Author.Rules.{rules}
use Rattle.move_outer.proofs.outer_reply.Goals as goal

pub returns-in_default : goal.returns-in_default
returns-in_default c = outer-nothing c.args.file.now c.args.state.now c.args.q c.args.n c.args.r c.args.bytes.now c.session_at.ensures c.in_default.is c.refused.ensures

pub waiting_at-requires : goal.waiting_at-requires
waiting_at-requires c =
    let h = slot-inside c.session_at.ensures c.in-Some.is in
    omega (arith, h)

pub returns-in_default-waiting_at : goal.returns-in_default-waiting_at
returns-in_default-waiting_at c = outer-not-waiting c.args.file.now c.args.state.now c.args.q c.args.n c.args.r c.args.bytes.now c.session_at.ensures c.in-Some.is c.waiting_at.ensures c.in_default-waiting_at.is c.refused-in_default-waiting_at.ensures

pub returns-then-in_file : goal.returns-then-in_file
returns-then-in_file c =
    outer-inside c.args.file.now c.args.state.now c.args.q c.args.n c.args.r c.args.bytes.now c.session_at.ensures c.in-Some.is c.waiting_at.ensures c.in-Some-waiting_at.is
    c.operation_location.ensures c.in_file.ensures c.if-in_file.true c.refused-then-in_file.ensures

pub returns-in-Err : goal.returns-in-Err
returns-in-Err c =
    outer-not c.args.file.now c.args.state.now c.args.q c.args.n c.args.r c.args.bytes.now c.session_at.ensures c.in-Some.is c.waiting_at.ensures c.in-Some-waiting_at.is
    c.operation_location.ensures c.in_file.ensures c.if-in_file.false c.reply_type-t.ensures c.passes.ensures c.in-Err.is c.refused-in-Err.ensures

pub take_reply-requires : goal.take_reply-requires
take_reply-requires c =
    let h = slot-inside c.session_at.ensures c.in-Some.is in
    (tt, omega (arith, h, c.requires), row_small c.waiting_at.ensures c.in-Some-waiting_at.is)

pub returns : goal.returns
returns c =
    outer-taken c.args.file.now c.args.state.now c.args.q c.args.n c.args.r c.args.bytes.now c.session_at.ensures c.in-Some.is c.waiting_at.ensures c.in-Some-waiting_at.is
    c.operation_location.ensures c.in_file.ensures c.if-in_file.false c.reply_type-t.ensures c.passes.ensures c.in_default-passes.is c.take_reply.ensures
