use Rattle.std.proofs.Common.{◌+◌, ◌-◌, ◌*◌}
use Rattle.report.proofs.+nodes.Given as goal

abbrev pub decreases-nodes : goal.decreases-nodes
decreases-nodes g l = 256 * (8 - l.level) + l.n
