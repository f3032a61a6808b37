use Rattle.host.proofs.Answers.{runs}
use Rattle.move_step.specs.Moves.{move_of}
use Rattle.host.proofs.pokhveti_reply.Goals as goal

pub returns : goal.returns
unfolding move_of
returns c = runs (c.step.ensures.value, (c.step.ensures.state_after, (c.step.ensures.out_after, c.step.ensures.sound_call))) (c.report.ensures.says, c.report.ensures.bytes_after)
