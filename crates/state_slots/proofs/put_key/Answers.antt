use Rattle.state_slots.proofs.Stores.{key-bytes}
use Rattle.state_slots.proofs.put_key.Goals as goal

pub returns : goal.returns
returns c = search key-bytes depth 12
