use Rattle.move_receive.proofs.Receiving.{input-done, input-other, input-refused, input-taken}
use native.Mathlib.Omega.{arith}
use Rattle.std.proofs.lemmas.Bool.{not_from_true, not_from_false}
use Rattle.move_receive.proofs.receive_input.Goals as goal

pub returns-then-not-is_undone : goal.returns-then-not-is_undone
returns-then-not-is_undone c = input-done c.args.file.now c.args.state.now c.args.q c.args.slot c.args.i c.args.x c.args.o c.args.p c.args.twoway c.is_undone.ensures (not_from_false _ c.if-not-is_undone.true) c.refused.ensures

pub returns-then-not-permits : goal.returns-then-not-permits
returns-then-not-permits c = input-other c.args.file.now c.args.state.now c.args.q c.args.slot c.args.i c.args.x c.args.o c.args.p c.args.twoway c.is_undone.ensures (not_from_true _ c.if-not-is_undone.false) c.permits.ensures (not_from_false _ c.if-not-permits.true) c.refused-then-not-permits.ensures

pub progress_after-y-requires : goal.progress_after-y-requires
progress_after-y-requires c = (
  c.requires.0,
  (c.take.ensures.bounds _ _ c.in-Ok.is).0,
)

pub store-requires : goal.store-requires
store-requires c = (
  c.requires.0,
  (c.take.ensures.bounds _ _ c.in-Ok.is).1,
  omega (
    arith,
    (c.take.ensures.bounds _ _ c.in-Ok.is).1,
  ),
  (c.take.ensures.bounds _ _ c.in-Ok.is).0,
  c.requires.2,
)

pub returns-in-Err : goal.returns-in-Err
returns-in-Err c =
    input-refused c.args.file.now
    c.args.state.now c.args.q c.args.slot c.args.i c.args.x c.args.o c.args.p c.args.twoway c.is_undone.ensures (not_from_true _ c.if-not-is_undone.false) c.permits.ensures (not_from_true _ c.if-not-permits.false) c.take.ensures c.in-Err.is
    c.refused-in-Err.ensures

pub returns-in-Ok : goal.returns-in-Ok
returns-in-Ok c =
    input-taken c.args.file.now c.args.state.now c.args.q c.args.slot c.args.i c.args.x c.args.o c.args.p c.args.twoway c.is_undone.ensures (not_from_true _ c.if-not-is_undone.false) c.permits.ensures (not_from_true _ c.if-not-permits.false) c.take.ensures c.in-Ok.is c.requires.2 c.progress_after-y.ensures c.store.ensures
    c.done.ensures
