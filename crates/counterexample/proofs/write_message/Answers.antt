use Rattle.counterexample.proofs.Writing.{message-outside, message-more}
use Rattle.counterexample.proofs.write_message.Goals as goal

pub returns-in_default : goal.returns-in_default
returns-in_default c = message-outside _ _ _ _ c.requires c.octets.ensures _ c.line_at.ensures c.in_default.is

pub returns : goal.returns
returns c =
    message-more _ _ _ _ c.requires c.octets.ensures _ c.line_at.ensures _ _ _ _ _ _ _ _ _ _ _ _ c.in-Some.is c.held-count.ensures c.least_size-z.ensures.0
    c.push_least-a.auto.out c.push_least-a.ensures c.write_least.ensures
