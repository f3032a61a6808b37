use Rattle.check_listing.proofs.Records.{node-wrote}
use Rattle.check_listing.proofs.put_node.Goals as goal

pub returns : goal.returns
returns c = node-wrote _ _ _ c.args.x c.push-a.ensures c.push-b.ensures c.from.ensures c.push-c.ensures c.push-d.ensures c.push-e.ensures c.push-f.ensures c.put_ids.ensures
