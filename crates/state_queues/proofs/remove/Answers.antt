use Rattle.state_queues.proofs.Writing.{removed-moved}
use Rattle.state_queues.proofs.remove.Goals as goal

pub returns : goal.returns
returns c =
    removed-moved _ _ _ c.requires.0 c.requires.1 c.entry_start-at.ensures c.copy_within.ensures.after (c.fill.ensures.after (λ y e. e))
