use Rattle.move_keys.proofs.KeyLaws.{key-none, key-there}
use Rattle.move_keys.proofs.key_of.Goals as goal

pub returns-in_err-down : goal.returns-in_err-down
returns-in_err-down c = rw c.from_residual.ensures (key-none _ _ c.down.ensures c.in_err-down.was)

pub returns : goal.returns
returns c = key-there _ _ c.down.ensures c.in_ok-down.was c.int_at.ensures
