use Rattle.state_slots.proofs.Stores.{release-zeros}
use Rattle.state_slots.proofs.release.Goals as goal

pub returns : goal.returns
returns c = release-zeros _ _ _ c.requires (c.fill.ensures.after (λ y e. e))
