use Rattle.host.proofs.Answers.{out-told}
use Rattle.host.proofs.pokhveti_types.Goals as goal

pub returns : goal.returns
returns c = out-told (c.write_types.ensures.value, c.write_types.ensures.out_after) (c.report.ensures.says, c.report.ensures.bytes_after)
