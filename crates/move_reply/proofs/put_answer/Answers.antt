use mathlib.Core.Path.{refl}
use Rattle.move_reply.proofs.MessageLaws.{answer-put}
use Rattle.move_reply.proofs.put_answer.Goals as goal

pub returns : goal.returns
returns c = answer-put c.args.number c.args.m.now c.requires c.put_u32.ensures refl c.append.ensures
