use mathlib.Core.Path.{◌∙◌}
use Rattle.type_trees.proofs.Naming.{added-known, added_new}
use borrow.Author.Rules.{rules}
use Rattle.type_trees.proofs.add_name.Goals as goal

pub returns-then-id-n : goal.returns-then-id-n
returns-then-id-n c = added-known c.args.text.now c.args.names.now c.args.n c.args.p _ (c.from-id.ensures ∙ c.id_of.ensures) c.if-id-n.true

pub returns : goal.returns
returns c =
    let e = c.from-id.ensures ∙ c.id_of.ensures in
    added_new c.args.text.now c.args.names.now c.args.n c.args.p _ e c.if-id-n.false (search rules) _ c.put_u16.ensures
