use Rattle.move_delivery.proofs.Delivering.{store-start}
use borrow.Author.Rules.{rules}
use Rattle.move_delivery.proofs.store_start.Goals as goal

pub returns : goal.returns
returns c =
    store-start (search rules) (search rules) (search rules) (search rules) (search rules) c.begin.ensures c.put_tree.ensures
    c.put_row.ensures c.put_row-2.ensures c.put_key.ensures
