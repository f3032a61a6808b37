use Rattle.state_queues.proofs.Writing.{message-stored}
use Rattle.state_queues.proofs.put_message.Goals as goal

pub returns : goal.returns
returns c =
    message-stored _ _ _ _ _ c.requires.0 c.requires.1 c.requires.2 c.copy_from_slice.ensures.after (c.fill.ensures.after (λ y e. e))
