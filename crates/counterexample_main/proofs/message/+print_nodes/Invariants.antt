use Rattle.std.proofs.Common.{◌+◌, ◌-◌, ◌*◌}
use Rattle.counterexample_main.proofs.message.+print_nodes.Given as goal

abbrev pub decreases-print_nodes : goal.decreases-print_nodes
decreases-print_nodes g l = 256 * (8 - l.level) + l.n
