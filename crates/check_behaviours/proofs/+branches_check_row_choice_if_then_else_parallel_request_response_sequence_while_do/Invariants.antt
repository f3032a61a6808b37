use Prim.Native.Nat.{◌+◌, ◌*◌}
use Rattle.check_behaviours.proofs.+branches_check_row_choice_if_then_else_parallel_request_response_sequence_while_do.Given as goal

abbrev pub decreases-branches : goal.decreases-branches
decreases-branches l = 70000 * l.left + l.n + 2

abbrev pub decreases-check_row : goal.decreases-check_row
decreases-check_row l = 70000 * l.left

abbrev pub decreases-choice : goal.decreases-choice
decreases-choice l = 70000 * l.left + 65540

abbrev pub decreases-if_then_else : goal.decreases-if_then_else
decreases-if_then_else l = 70000 * l.left + 1

abbrev pub decreases-parallel : goal.decreases-parallel
decreases-parallel l = 70000 * l.left + 2

abbrev pub decreases-request_response : goal.decreases-request_response
decreases-request_response l = 70000 * l.left + 1

abbrev pub decreases-sequence : goal.decreases-sequence
decreases-sequence l = 70000 * l.left + 1

abbrev pub decreases-while_do : goal.decreases-while_do
decreases-while_do l = 70000 * l.left + 1
