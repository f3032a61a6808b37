use Rattle.move_outer.proofs.Outer.{outer-none, outer-input}
use borrow.Author.Rules.{rules}
use Rattle.move_outer.proofs.outer_message.Goals as goal

pub returns-in_default : goal.returns-in_default
returns-in_default c =
    outer-none c.args.file.now c.args.bytes.now c.args.q c.args.id c.args.n c.args.number c.named_input.ensures (search rules)
    c.refused.ensures

pub returns : goal.returns
returns c =
    outer-input c.args.file.now c.args.bytes.now c.args.q c.args.id c.args.n c.args.number c.named_input.ensures c.in-Some.is
    c.arrive.ensures
