use borrow.Author.Rules.{rules}
use Rattle.std.proofs.lemmas.Result.{err_from_is_err_and}
use Rattle.type_reading.specs.WordLaws.{word-up-to}
use Rattle.type_reading.proofs.Beginnings.{side-wordless, side-entry, side-tree}
use Rattle.type_reading.proofs.side_at.Goals as goal

pub returns-in_err-p : goal.returns-in_err-p
returns-in_err-p c =
    let r = err_from_is_err_and c.from_residual.result c.from_residual.ensures.1 in
    rw (r.1, r.2) (side-wordless c.args.text.now c.args.at c.args.table.now c.args.n c.in_err-p.field-0.0 c.requires.2 c.in_err-p.ensures.0 c.in_err-p.ensures.1)

pub find_type-requires : goal.find_type-requires
find_type-requires c = (word-up-to c.args.text.now c.args.at c.in_ok-p.p c.in_ok-p.q c.in_ok-p.ensures, search rules)

pub tree_at-requires : goal.tree_at-requires
tree_at-requires c = word-up-to c.args.text.now c.args.at c.in_ok-p.p c.in_ok-p.q c.in_ok-p.ensures

pub returns-in-Some : goal.returns-in-Some
returns-in-Some c = side-entry c.args.text.now c.args.at c.args.table.now c.args.n c.in_ok-p.p c.in_ok-p.q c.in_ok-p.ensures c.in-Some.i c.in-Some.ensures

pub returns-in-None : goal.returns-in-None
returns-in-None c = side-tree c.args.text.now c.args.at c.args.table.now c.args.n c.in_ok-p.p c.in_ok-p.q c.in_ok-p.ensures c.in-None.ensures c.tree_at.result c.tree_at.ensures
