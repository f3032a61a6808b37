use native.Mathlib.Omega.{arith}
use mathlib.Core.Path.{refl}
use Rattle.basics.specs.ListLaws.{prefix-length}
use Rattle.state_progress.specs.Meaning.{meaning}
use Rattle.move_send.proofs.MakingLaws.{message-inside, outside-done, message-laws, outside-laws}
use borrow.Author.Rules.{rules}
use Rattle.move_send.proofs.send_outside.Goals as goal

pub returns-then-out-lt512 : goal.returns-then-out-lt512
returns-then-out-lt512 c = search (outside-laws, message-laws, rules) depth 12

pub returns-then-to-ne0 : goal.returns-then-to-ne0
returns-then-to-ne0 c = search (outside-laws, message-laws, rules) depth 12

pub returns-in-Err : goal.returns-in-Err
returns-in-Err c = search (outside-laws, message-laws, rules) depth 12

pub slice_bounds-m-end : goal.slice_bounds-m-end
slice_bounds-m-end c = search (message-laws, rules) depth 12

pub slice_bounds-passes-end : goal.slice_bounds-passes-end
slice_bounds-passes-end c = search (message-laws, rules) depth 12

pub returns-in-Err-passes : goal.returns-in-Err-passes
returns-in-Err-passes c = search (outside-laws, message-laws, rules) depth 12

pub returns-then-n-gt512 : goal.returns-then-n-gt512
returns-then-n-gt512 c = search (outside-laws, message-laws, rules) depth 12

pub slice_bounds-m-end-2 : goal.slice_bounds-m-end-2
slice_bounds-m-end-2 c = search (message-laws, rules) depth 12

pub slice_bounds-append-end : goal.slice_bounds-append-end
slice_bounds-append-end c = prefix-length c.write_message.new.out c.in-Ok.n (message-inside c.write_message.ensures c.in-Ok.is)

pub append-requires : goal.append-requires
append-requires c =
    let h = prefix-length c.write_message.new.out c.in-Ok.n (message-inside c.write_message.ensures c.in-Ok.is) in
    (omega (arith, h), omega (arith, h, c.if-n-gt512.false, c.if-out-lt512.false))

pub returns : goal.returns
returns c =
    outside-done c.args.file.now c.args.state.now c.args.slot c.args.i c.args.o c.args.e c.args.to (meaning c.args.after) c.args.out.now c.if-to-ne0.false
    c.write_message.ensures c.in-Ok.is _ refl c.request_type-t.ensures c.passes.ensures c.in_default.is
    (prefix-length c.write_message.new.out c.in-Ok.n (message-inside c.write_message.ensures c.in-Ok.is)) c.requires.1 c.put_row.ensures c.append.ensures c.done.ensures
