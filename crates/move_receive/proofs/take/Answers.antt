use Rattle.move_receive.proofs.Oldest.{take-nothing, take_below, take-start, take_long, take-large, take_past, take-message}
use native.Mathlib.Omega.{arith}
use borrow.Author.Rules.{rules}
use Rattle.std.proofs.Common.{◌≡◌, ◌∙◌, ap, subst, sym}
use Rattle.std.specs.Result.{result_ok}
use Rattle.std.specs.Prelude.{Some, None, Err}
use Rattle.refusal.specs.declared.Refusal.TheVariants.{MoveNotAllowed, Stuck}
use Rattle.move_receive.specs.Receiving.{Takes}
use Rattle.move_receive.proofs.take.Goals as goal

pub returns-in_err-k : goal.returns-in_err-k
returns-in_err-k c =
    let e : c.oldest.result ≡ None = c.ok_or.ensures.ok_part ∙ ap result_ok c.in_err-k.was in
    let z : c.from_residual.result ≡ Err MoveNotAllowed = search rules in
    subst (Takes c.args.file.now c.args.state.now c.args.slot c.args.o c.args.p c.args.scratch.now) (sym z)
    (take-nothing c.args.file.now c.args.state.now c.args.slot c.args.o c.args.p c.oldest.ensures e)

pub entry_message-m-requires : goal.entry_message-m-requires
entry_message-m-requires c =
    let e : c.oldest.result ≡ Some c.in_ok-k.k = c.ok_or.ensures.ok_part ∙ ap result_ok c.in_ok-k.was in
    (c.requires.0, take_below c.args.file.now c.args.state.now c.args.slot c.args.o c.args.p c.oldest.ensures _ e)

pub returns-then-m-gt336 : goal.returns-then-m-gt336
returns-then-m-gt336 c =
    let e : c.oldest.result ≡ Some c.in_ok-k.k = c.ok_or.ensures.ok_part ∙ ap result_ok c.in_ok-k.was in
    take_long c.args.file.now c.args.state.now c.args.slot c.args.o c.args.p c.oldest.ensures _ e c.entry_message-m.ensures c.if-m-gt336.true

pub overflow_add-message : goal.overflow_add-message
overflow_add-message c =
    let e : c.oldest.result ≡ Some c.in_ok-k.k = c.ok_or.ensures.ok_part ∙ ap result_ok c.in_ok-k.was in
    omega (
      arith,
      c.requires.0,
      c.if-m-gt336.false,
      take_below c.args.file.now c.args.state.now c.args.slot c.args.o c.args.p c.oldest.ensures _ e,
      take-start c.args.file.now c.args.state.now c.args.slot c.args.o c.args.p c.oldest.ensures _ e c.entry_message-m.ensures,
    )

pub slice_bounds-message-end : goal.slice_bounds-message-end
slice_bounds-message-end c =
    let e : c.oldest.result ≡ Some c.in_ok-k.k = c.ok_or.ensures.ok_part ∙ ap result_ok c.in_ok-k.was in
    omega (
      arith,
      c.requires.0,
      c.if-m-gt336.false,
      take_below c.args.file.now c.args.state.now c.args.slot c.args.o c.args.p c.oldest.ensures _ e,
      take-start c.args.file.now c.args.state.now c.args.slot c.args.o c.args.p c.oldest.ensures _ e c.entry_message-m.ensures,
    )

pub returns-in_err-n : goal.returns-in_err-n
returns-in_err-n c =
    let e : c.oldest.result ≡ Some c.in_ok-k.k = c.ok_or.ensures.ok_part ∙ ap result_ok c.in_ok-k.was in
    let f : c.replace.result ≡ None = c.ok_or-2.ensures.ok_part ∙ ap result_ok c.in_err-n.was in
    let z : c.from_residual-in_err-n.result ≡ Err Stuck = search rules in
    subst (Takes c.args.file.now c.args.state.now c.args.slot c.args.o c.args.p c.replace.new.out) (sym z)
    (take-large c.args.file.now c.args.state.now c.args.slot c.args.o c.args.p c.oldest.ensures _ e c.entry_message-m.ensures c.path_row-ids.ensures c.replace.ensures f)

pub returns-then-n-gt1024 : goal.returns-then-n-gt1024
returns-then-n-gt1024 c =
    let e : c.oldest.result ≡ Some c.in_ok-k.k = c.ok_or.ensures.ok_part ∙ ap result_ok c.in_ok-k.was in
    let f : c.replace.result ≡ Some c.in_ok-n.n = c.ok_or-2.ensures.ok_part ∙ ap result_ok c.in_ok-n.was in
    take_past c.args.file.now c.args.state.now c.args.slot c.args.o c.args.p
    c.oldest.ensures _ e c.entry_message-m.ensures c.path_row-ids.ensures c.replace.ensures _ f c.if-n-gt1024.true

pub returns : goal.returns
returns c =
    let e : c.oldest.result ≡ Some c.in_ok-k.k = c.ok_or.ensures.ok_part ∙ ap result_ok c.in_ok-k.was in
    let f : c.replace.result ≡ Some c.in_ok-n.n = c.ok_or-2.ensures.ok_part ∙ ap result_ok c.in_ok-n.was in
    take-message c.args.file.now c.args.state.now c.args.slot c.args.o c.args.p
    c.oldest.ensures _ e c.entry_message-m.ensures c.path_row-ids.ensures c.replace.ensures _ f c.if-n-gt1024.false
