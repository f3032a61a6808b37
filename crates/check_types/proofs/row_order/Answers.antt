use Rattle.check_types.proofs.Writing.{order_same, order-rows}
use Rattle.check_types.proofs.row_order.Goals as goal

pub returns-then-r-t : goal.returns-then-r-t
returns-then-r-t c = search (order_same) depth 12

pub returns : goal.returns
returns c = search (order-rows) depth 12
