use Rattle.move_frame.specs.StepLaws.{step-state-size, step-out-size, step-form, step-no-state, step-made-out}
use Rattle.move_step.specs.Moves.{move_of}
use Rattle.move_step.proofs.Steps.{as-refused, well-formed, no-state, a-state}
use Rattle.std.proofs.lemmas.Bool.{not_from_true, not_from_false}
use Rattle.move_step.proofs.step.Goals as goal

pub returns-then-state-ne65536 : goal.returns-then-state-ne65536
returns-then-state-ne65536 c =
    let k = step-state-size c.args.file.now c.args.state.now c.args.out.now (move_of c.args.m) c.args.outside.now c.if-state-ne65536.true c.refused.ensures in record { value = k.0; state_after = k.1; out_after = k.2 }

pub returns-then-out-lt512 : goal.returns-then-out-lt512
returns-then-out-lt512 c =
    let k = step-out-size c.args.file.now c.args.state.now c.args.out.now (move_of c.args.m) c.args.outside.now c.if-state-ne65536.false c.if-out-lt512.true c.refused-then-out-lt512.ensures in record { value = k.0; state_after = k.1; out_after = k.2 }

pub returns-in-Err : goal.returns-in-Err
returns-in-Err c =
    let k = step-form c.args.file.now c.args.state.now c.args.out.now (move_of c.args.m) c.args.outside.now c.if-state-ne65536.false c.if-out-lt512.false c.form_of.ensures c.in-Err.is (as-refused c.in-Err.is c.refused-in-Err.ensures) in record { value = k.0; state_after = k.1; out_after = k.2 }

pub returns-then-not-stands : goal.returns-then-not-stands
returns-then-not-stands c =
    let k = step-no-state c.args.file.now c.args.state.now c.args.out.now (move_of c.args.m) c.args.outside.now c.if-state-ne65536.false c.if-out-lt512.false (well-formed c.args.file.now c.form_of.ensures c.in_default.is)
    (no-state _ _ _ (well-formed c.args.file.now c.form_of.ensures c.in_default.is) c.stands.ensures (not_from_false _ c.if-not-stands.true)) c.refused-then-not-stands.ensures in record { value = k.0; state_after = k.1; out_after = k.2 }

pub returns : goal.returns
returns c =
    let k = step-made-out c.args.file.now c.args.state.now c.args.out.now (move_of c.args.m) c.args.outside.now c.if-state-ne65536.false c.if-out-lt512.false (well-formed c.args.file.now c.form_of.ensures c.in_default.is)
    c.octets.ensures (a-state _ _ _ (well-formed c.args.file.now c.form_of.ensures c.in_default.is) c.stands.ensures (not_from_true _ c.if-not-stands.false)) c.make.ensures in record { value = k.0; state_after = k.1; out_after = k.2 }
