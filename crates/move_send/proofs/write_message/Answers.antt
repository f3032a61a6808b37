use Rattle.move_send.proofs.MakingLaws.{message-written}
use borrow.Author.Rules.{rules}
use Rattle.move_send.proofs.write_message.Goals as goal

pub returns : goal.returns
returns c = search (message-written, rules) depth 12
