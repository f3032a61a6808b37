use mathlib.Core.Path.{◌∙◌}
use Rattle.check_types.proofs.Writing.{node-wrote, byte-flag}
use Rattle.check_types.proofs.push_node.Goals as goal

pub returns : goal.returns
returns c = node-wrote c.args.id c.args.m c.push_id-x.ensures c.push-y.ensures c.push-z.ensures c.push-u.ensures (c.from.ensures ∙ byte-flag c.args.m) c.push-v.ensures c.push.ensures
