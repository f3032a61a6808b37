use Rattle.state_slots.proofs.Stores.{tree-bytes}
use Rattle.state_slots.proofs.put_tree.Goals as goal

pub returns : goal.returns
returns c = tree-bytes c.args.state.now c.args.tree.now c.args.slot c.args.n c.requires c.put_u16.ensures c.from.ensures c.store.ensures
