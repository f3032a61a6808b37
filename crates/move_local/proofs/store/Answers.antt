use Rattle.state.specs.Session.{done}
use Rattle.move_local.proofs.RowLaws.{then-row}
use Rattle.move_local.proofs.store.Goals as goal

pub returns : goal.returns
returns c = then-row c.args.slot c.args.r done c.put_tree.ensures c.settle.ensures
