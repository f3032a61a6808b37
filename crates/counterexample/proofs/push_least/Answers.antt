use Rattle.counterexample.proofs.Bytes.{least-wrote}
use Rattle.counterexample.proofs.push_least.Goals as goal

pub returns : goal.returns
returns c = least-wrote c.args.id c.requires.0 c.push_id-a.ensures c.push-b.ensures c.push-c.ensures c.push-d.ensures c.append.ensures
