use native.Mathlib.Omega.{arith}
use mathlib.Core.Path.{refl, sym}
use Rattle.basics.specs.ListLaws.{prefix-length}
use Rattle.move_reply.proofs.AnswerLaws.{reply-inside, outside-short, outside-missing, outside-not, outside-long, outside-done}
use borrow.Author.Rules.{rules}
use Rattle.move_reply.proofs.reply_outside.Goals as goal

pub returns-then-out-lt512 : goal.returns-then-out-lt512
returns-then-out-lt512 c = outside-short c.args.file.now c.args.state.now c.args.slot c.args.r c.args.o c.args.c c.args.number c.args.out.now c.if-out-lt512.true

pub returns-in_default : goal.returns-in_default
returns-in_default c = outside-missing c.args.file.now c.args.state.now c.args.slot c.args.r c.args.o c.args.c c.args.number c.args.out.now c.read_reply.ensures c.in_default.is c.refused-in_default.ensures

pub slice_bounds-m-end : goal.slice_bounds-m-end
slice_bounds-m-end c = reply-inside c.read_reply.ensures c.in-Some.is

pub slice_bounds-passes-end : goal.slice_bounds-passes-end
slice_bounds-passes-end c = prefix-length c.read_reply.new.out c.in-Some.n (reply-inside c.read_reply.ensures c.in-Some.is)

pub returns-in-Err : goal.returns-in-Err
returns-in-Err c =
    outside-not c.args.file.now c.args.state.now c.args.slot c.args.r c.args.o c.args.c c.args.number c.args.out.now c.read_reply.ensures c.in-Some.is _ refl
    c.reply_type-t.ensures c.passes.ensures c.in-Err.is c.refused-in-Err.ensures

pub returns-then-n-gt508 : goal.returns-then-n-gt508
returns-then-n-gt508 c =
    outside-long c.args.file.now c.args.state.now c.args.slot c.args.r c.args.o c.args.c c.args.number c.args.out.now c.read_reply.ensures c.in-Some.is _ refl
    c.reply_type-t.ensures c.passes.ensures c.in_default-passes.is (sym (prefix-length c.read_reply.new.out c.in-Some.n (reply-inside c.read_reply.ensures c.in-Some.is))) c.if-n-gt508.true

pub slice_bounds-m-end-2 : goal.slice_bounds-m-end-2
slice_bounds-m-end-2 c = reply-inside c.read_reply.ensures c.in-Some.is

pub slice_bounds-put_answer-end : goal.slice_bounds-put_answer-end
slice_bounds-put_answer-end c = prefix-length c.read_reply.new.out c.in-Some.n (reply-inside c.read_reply.ensures c.in-Some.is)

pub put_answer-requires : goal.put_answer-requires
put_answer-requires c =
    let h = prefix-length c.read_reply.new.out c.in-Some.n (reply-inside c.read_reply.ensures c.in-Some.is) in
    omega (arith, h, c.if-n-gt508.false, c.if-out-lt512.false)

pub returns : goal.returns
returns c =
    outside-done c.args.file.now c.args.state.now c.args.slot c.args.r c.args.o c.args.c c.args.number c.args.out.now c.read_reply.ensures c.in-Some.is _ refl
    c.reply_type-t.ensures c.passes.ensures c.in_default-passes.is c.requires.1 c.put_row.ensures c.put_answer.ensures c.done.ensures
