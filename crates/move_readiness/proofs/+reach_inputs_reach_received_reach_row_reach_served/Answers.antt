use Rattle.move_readiness.proofs.ReachLaws.{reach-row-laws, reach-served-laws}
use Rattle.move_readiness.proofs.+reach_inputs_reach_received_reach_row_reach_served.Goals as goal

pub reach_row-returns-then-i-r : goal.reach_row-returns-then-i-r
reach_row-returns-then-i-r t c = search reach-row-laws depth 12

pub reach_row-returns-in-Nowhere : goal.reach_row-returns-in-Nowhere
reach_row-returns-in-Nowhere t c = search reach-row-laws depth 12

pub reach_row-returns-in-One : goal.reach_row-returns-in-One
reach_row-returns-in-One t c = search reach-row-laws depth 12

pub reach_row-returns-in-Unreached : goal.reach_row-returns-in-Unreached
reach_row-returns-in-Unreached t c = search reach-row-laws depth 12

pub reach_row-returns-in-Inputs : goal.reach_row-returns-in-Inputs
reach_row-returns-in-Inputs t c = search reach-row-laws depth 12

pub reach_served-returns-in-Unreached : goal.reach_served-returns-in-Unreached
reach_served-returns-in-Unreached t c = search reach-served-laws depth 12

pub reach_row-returns-in_default : goal.reach_row-returns-in_default
reach_row-returns-in_default t c = search reach-row-laws depth 12

pub reach_served-returns-in_default : goal.reach_served-returns-in_default
reach_served-returns-in_default t c = search reach-served-laws depth 12
