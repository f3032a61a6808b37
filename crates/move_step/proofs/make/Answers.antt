use Rattle.move_step.proofs.Steps.{is-local, is-receive, is-send, is-reply, is-outside, is-outside-reply, is-close}
use Rattle.move_step.proofs.make.Goals as goal

pub returns-in-Local : goal.returns-in-Local
returns-in-Local c = is-local c.args.file.now c.args.m c.args.outside.now _ _ _ c.in-Local.is c.local_move.ensures

pub returns-in-Receive : goal.returns-in-Receive
returns-in-Receive c = is-receive c.args.file.now c.args.m c.args.outside.now _ _ _ c.in-Receive.is c.receive_move.ensures

pub returns-in-Send : goal.returns-in-Send
returns-in-Send c = is-send c.args.file.now c.args.m c.args.outside.now _ _ _ _ c.in-Send.is c.send_move.ensures

pub returns-in-Reply : goal.returns-in-Reply
returns-in-Reply c = is-reply c.args.file.now c.args.m c.args.outside.now _ _ _ c.in-Reply.is c.reply_move.ensures

pub returns-in-OuterMessage : goal.returns-in-OuterMessage
returns-in-OuterMessage c = is-outside c.args.file.now c.args.m c.args.outside.now _ _ _ _ c.in-OuterMessage.is c.outer_message.ensures

pub returns-in-OuterReply : goal.returns-in-OuterReply
returns-in-OuterReply c = is-outside-reply c.args.file.now c.args.m c.args.outside.now _ _ _ c.in-OuterReply.is c.outer_reply.ensures

pub returns-in-Close : goal.returns-in-Close
returns-in-Close c = is-close c.args.file.now c.args.m c.args.outside.now _ _ c.in-Close.is c.close_move.ensures
