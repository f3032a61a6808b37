use Rattle.move_fresh.proofs.Starting.{clients-none, clients-next, fresh-size, fresh-refused, fresh-many, fresh-done}
use Rattle.move_fresh.proofs.fresh.Goals as goal

pub returns-then-state-ne65536 : goal.returns-then-state-ne65536
returns-then-state-ne65536 c =
    let both = fresh-size c.args.file.now c.args.state.now c.if-state-ne65536.true c.refused.ensures in
    record { value = both.0; state_after = both.1 }

pub returns-in-Err : goal.returns-in-Err
returns-in-Err c =
    let both = fresh-refused c.args.file.now c.args.state.now c.if-state-ne65536.false (c.check-x.ensures.value, c.check-x.ensures.if_passed)
    c.in-Err.is c.refused-in-Err.ensures in
    record { value = both.0; state_after = both.1 }

pub returns-then-n-gt4 : goal.returns-then-n-gt4
returns-then-n-gt4 c =
    fresh-many c.args.file.now c.args.state.now c.if-state-ne65536.false (c.check-x.ensures.value, c.check-x.ensures.if_passed)
    c.in_default.is c.service_count-n.ensures c.if-n-gt4.true

pub loop-q-init : goal.loop-q-init
loop-q-init c = clients-none c.args.file.now _

pub loop-q-preserved : goal.loop-q-preserved
loop-q-preserved c = clients-next c.args.file.now c.loop-q.q c.loop-q.invariant c.start_client.ensures

pub returns : goal.returns
returns c =
    let both = fresh-done c.args.file.now c.args.state.now c.if-state-ne65536.false (c.check-x.ensures.value, c.check-x.ensures.if_passed)
    c.in_default.is c.service_count-n.ensures (c.fill.ensures.after (λ y e. e)) c.loop-q-test.false c.loop-q.auto.q-end c.loop-q.invariant c.done.ensures in
    record { value = both.0; state_after = both.1 }
