use Rattle.controller.proofs.CallLaws.{step-sound}
use Rattle.controller.proofs.step.Goals as goal

pub returns : goal.returns
returns c =
    let k =
    step-sound c.args.file.now c.args.state.now c.args.out.now c.args.asked c.args.outside.now c.numbered.ensures c.octets.ensures
    (c.step.ensures.value, (c.step.ensures.state_after, c.step.ensures.out_after)) in
    record { value = k.0; state_after = k.1.0; out_after = k.1.1.0; sound_call = k.1.1.1 }
