use Rattle.state.specs.Session.{taken}
use Rattle.move_local.proofs.RowLaws.{then-row}
use Rattle.move_local.proofs.take_body.Goals as goal

pub returns : goal.returns
returns c = then-row c.args.slot c.args.r (taken 0) c.reopen.ensures c.settle.ensures
