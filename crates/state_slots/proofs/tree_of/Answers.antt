use Rattle.state_slots.proofs.Stores.{tree-none, tree-found}
use Rattle.state_slots.proofs.tree_of.Goals as goal

pub returns-then-n-gt-TREE_ROOM : goal.returns-then-n-gt-TREE_ROOM
returns-then-n-gt-TREE_ROOM c = tree-none c.args.state.now c.args.slot c.u16_at.ensures c.from-n.ensures c.if-n-gt-TREE_ROOM.true

pub returns : goal.returns
returns c = tree-found c.args.state.now c.args.slot c.u16_at.ensures c.from-n.ensures c.if-n-gt-TREE_ROOM.false
