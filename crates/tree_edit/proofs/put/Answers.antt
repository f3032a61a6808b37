use borrow.Author.Rules.{rules}
use Rattle.tree.specs.Encode.{Octets}
use native.Mathlib.Omega.{arith}
use Rattle.tree_edit.proofs.Changing.{gap_of, hit-of, message-long, put-inserted, put-replaced}
use Rattle.tree_edit.proofs.put.Goals as goal

pub insert-requires : goal.insert-requires
insert-requires c =
    let o : Octets c.args.m.now = search rules in
    (gap_of _ _ _ _ _ _ c.route.ensures c.in-Insert.is, omega (arith, message-long 6 48 c.args.m.now o c.requires.1), c.requires.2)

pub replace-requires : goal.replace-requires
replace-requires c =
    let o : Octets c.args.m.now = search rules in
    let h = hit-of _ _ _ _ _ _ c.route.ensures c.in-Replace.is in
    let l = message-long 6 48 c.args.m.now o c.requires.1 in
    (omega arith, omega arith, omega arith, omega arith)

pub returns-in-Insert : goal.returns-in-Insert
returns-in-Insert c =
    let o : Octets c.args.m.now = search rules in
    put-inserted c.args.typed _ _ _ _ o c.requires.1 c.route.ensures _ _ _ c.in-Insert.is c.insert.ensures

pub returns-in-Replace : goal.returns-in-Replace
returns-in-Replace c =
    let o : Octets c.args.m.now = search rules in
    put-replaced c.args.typed _ _ _ _ o c.requires.1 c.route.ensures _ _ _ c.in-Replace.is c.replace.ensures
