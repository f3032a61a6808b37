use Rattle.move_receive.proofs.Storing.{stores}
use Rattle.move_receive.proofs.store.Goals as goal

pub returns : goal.returns
returns c = stores c.args.state.now c.args.slot c.args.tree.now c.args.n c.args.k c.args.x c.args.i _ c.put_tree.ensures c.remove.ensures c.settle.ensures c.put_row.ensures
