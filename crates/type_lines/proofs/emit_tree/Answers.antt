use Rattle.type_lines.proofs.Emitting.{tree_laws, tree-more}
use Rattle.type_lines.proofs.emit_tree.Goals as goal

pub returns-in_default : goal.returns-in_default
returns-in_default c = search tree_laws depth 12

pub returns-then-r-gt255 : goal.returns-then-r-gt255
returns-then-r-gt255 c = search tree_laws depth 12

pub returns-then-out-w-lt8 : goal.returns-then-out-w-lt8
returns-then-out-w-lt8 c = search tree_laws depth 12

pub returns : goal.returns
returns c =
    tree-more _ _ _ _ c.requires c.from-w.ensures _ c.type_head.ensures c.in-Some.head c.in-Some.is
    _ c.from-c.ensures _ _ _ _ _ _ _ _
    c.push_row-a.auto.out c.emit_level-e.auto.out c.emit_level-f.auto.out
    c.push_row-a.ensures c.emit_level-e.ensures c.emit_level-f.ensures c.emit_level-g.ensures
