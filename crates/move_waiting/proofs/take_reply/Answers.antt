use Rattle.move_waiting.proofs.ReplyLaws.{reply-taken}
use Rattle.move_waiting.proofs.take_reply.Goals as goal

pub returns : goal.returns
returns c =
    reply-taken c.args.file.now c.args.state.now c.args.from c.args.slot c.args.r c.args.path c.args.message.now c.replace_at.ensures c.in-Some.is
    c.requires.0 c.settle.ensures c.put_reply.ensures c.done.ensures
