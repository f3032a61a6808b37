use Rattle.move_receive.proofs.Storing.{settle-branch, settle-past}
use Rattle.move_receive.proofs.settle.Goals as goal

pub returns-then-c-lt256 : goal.returns-then-c-lt256
returns-then-c-lt256 c = settle-branch c.args.state.now c.args.slot c.in-Some.is c.if-c-lt256.true c.put_row.ensures

pub returns-else-c-lt256 : goal.returns-else-c-lt256
returns-else-c-lt256 c = settle-past c.args.state.now c.args.slot c.in-Some.is c.if-c-lt256.false
