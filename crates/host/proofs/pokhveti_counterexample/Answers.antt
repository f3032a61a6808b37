use Rattle.host.proofs.Answers.{out-told}
use Rattle.host.proofs.pokhveti_counterexample.Goals as goal

pub returns : goal.returns
returns c = out-told (c.counterexample.ensures.value, c.counterexample.ensures.out_after) (c.report.ensures.says, c.report.ensures.bytes_after)
