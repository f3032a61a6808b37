use native.Mathlib.Omega.{arith}
use mathlib.Core.Path.{refl}
use Rattle.basics.specs.ListLaws.{prefix-length}
use Rattle.move_frame.specs.MadeLaws.{slot-inside}
use Rattle.move_reply.proofs.AnswerLaws.{reply-inside, waiting-small, inside-nothing, inside-not-waiting, inside-missing, inside-not, inside-taken}
use borrow.Author.Rules.{rules}
use Rattle.move_reply.proofs.reply_inside.Goals as goal

pub returns-in_default : goal.returns-in_default
returns-in_default c = inside-nothing c.args.file.now c.args.state.now c.args.slot c.args.r c.args.c c.args.q2 c.args.n2 c.args.r2 c.session_at.ensures c.in_default.is c.refused.ensures

pub waiting_at-requires : goal.waiting_at-requires
waiting_at-requires c =
    let h = slot-inside c.session_at.ensures c.in-Some.is in
    omega (arith, h)

pub returns-in_default-waiting_at : goal.returns-in_default-waiting_at
returns-in_default-waiting_at c = inside-not-waiting c.args.file.now c.args.state.now c.args.slot c.args.r c.args.c c.args.q2 c.args.n2 c.args.r2 c.session_at.ensures c.in-Some.is c.waiting_at.ensures c.in_default-waiting_at.is c.refused-in_default-waiting_at.ensures

pub returns-in_default-read_reply : goal.returns-in_default-read_reply
returns-in_default-read_reply c =
    inside-missing c.args.file.now c.args.state.now c.args.slot c.args.r c.args.c c.args.q2 c.args.n2 c.args.r2 c.session_at.ensures c.in-Some.is c.waiting_at.ensures
    c.in-Some-waiting_at.is c.read_reply.ensures c.in_default-read_reply.is c.refused-in_default-read_reply.ensures

pub slice_bounds-m-end : goal.slice_bounds-m-end
slice_bounds-m-end c = reply-inside c.read_reply.ensures c.in-Some-read_reply.is

pub slice_bounds-passes-end : goal.slice_bounds-passes-end
slice_bounds-passes-end c = prefix-length c.read_reply.new.out c.in-Some-read_reply.n (reply-inside c.read_reply.ensures c.in-Some-read_reply.is)

pub returns-in-Err : goal.returns-in-Err
returns-in-Err c =
    inside-not c.args.file.now c.args.state.now c.args.slot c.args.r c.args.c c.args.q2 c.args.n2 c.args.r2 c.session_at.ensures c.in-Some.is c.waiting_at.ensures
    c.in-Some-waiting_at.is c.read_reply.ensures c.in-Some-read_reply.is _ refl c.reply_type-t.ensures c.passes.ensures c.in-Err.is c.refused-in-Err.ensures

pub slice_bounds-m-end-2 : goal.slice_bounds-m-end-2
slice_bounds-m-end-2 c = reply-inside c.read_reply.ensures c.in-Some-read_reply.is

pub slice_bounds-take_reply-end : goal.slice_bounds-take_reply-end
slice_bounds-take_reply-end c = prefix-length c.read_reply.new.out c.in-Some-read_reply.n (reply-inside c.read_reply.ensures c.in-Some-read_reply.is)

pub take_reply-requires : goal.take_reply-requires
take_reply-requires c =
    let h = slot-inside c.session_at.ensures c.in-Some.is in
    ((omega (arith, c.requires.0, c.requires.1), c.requires.2), omega (arith, h, c.requires.0), waiting-small c.waiting_at.ensures c.in-Some-waiting_at.is)

pub returns : goal.returns
returns c =
    inside-taken c.args.file.now c.args.state.now c.args.slot c.args.r c.args.c c.args.q2 c.args.n2 c.args.r2 c.session_at.ensures c.in-Some.is c.waiting_at.ensures
    c.in-Some-waiting_at.is c.read_reply.ensures c.in-Some-read_reply.is _ refl c.reply_type-t.ensures c.passes.ensures c.in_default-passes.is c.take_reply.ensures
