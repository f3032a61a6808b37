use mathlib.Core.Path.{◌∙◌}
use Rattle.type_writing.specs.Sums.{table_rows, rows-summed, table_large, large-nodes, large-levels, large-passed, large-none}
use borrow.Author.Rules.{rules}
use Rattle.type_writing.proofs.first_large.Goals as goal

pub returns-then-nodes-gt15 : goal.returns-then-nodes-gt15
returns-then-nodes-gt15 c = large-nodes c.args.table.now c.loop-i.i c.args.n c.loop-i.row (table_large c.args.table.now 0 c.args.n 0) c.loop-i.invariant.1 (search rules) (search rules)

pub returns-then-u16_at-gt3 : goal.returns-then-u16_at-gt3
returns-then-u16_at-gt3 c = large-levels c.args.table.now c.loop-i.i c.args.n c.loop-i.row (table_large c.args.table.now 0 c.args.n 0) c.loop-i.invariant.1 (search rules) (search rules) (search rules)

pub loop-i-preserved : goal.loop-i-preserved
loop-i-preserved c =
    let z = rows-summed c.args.table.now c.loop-i.i c.args.n c.loop-i.row (table_rows c.args.table.now 0 c.args.n) (search rules) c.loop-i.invariant.0 in
    let y = large-passed c.args.table.now c.loop-i.i c.args.n c.loop-i.row (table_large c.args.table.now 0 c.args.n 0) c.loop-i.invariant.1 (search rules) (search rules) (search rules) in
    (search rules, rw (c.from-nodes.ensures ∙ c.u16_at.ensures) y)

pub returns : goal.returns
returns c = large-none c.args.table.now c.loop-i.i c.args.n c.loop-i.row (table_large c.args.table.now 0 c.args.n 0) c.loop-i.invariant.1 (search rules)
