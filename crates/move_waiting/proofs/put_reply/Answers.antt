use Rattle.move_waiting.proofs.ReplyLaws.{put-laws}
use borrow.Author.Rules.{rules}
use Rattle.move_waiting.proofs.put_reply.Goals as goal

pub returns : goal.returns
returns c = search (put-laws, rules) depth 12
