use Rattle.type_writing.specs.Sums.{table_rows, rows-summed, rows-over, rows-ended}
use borrow.Author.Rules.{rules}
use Rattle.type_writing.proofs.count_rows.Goals as goal

pub returns-then-rows-gt256 : goal.returns-then-rows-gt256
returns-then-rows-gt256 c = rows-over c.args.table.now c.loop-i.i c.args.n c.loop-i.rows (table_rows c.args.table.now 0 c.args.n) (search rules) c.loop-i.invariant.1 (search rules)

pub loop-i-preserved : goal.loop-i-preserved
loop-i-preserved c =
    let z = rows-summed c.args.table.now c.loop-i.i c.args.n c.loop-i.rows (table_rows c.args.table.now 0 c.args.n) (search rules) c.loop-i.invariant.1 in
    (search rules, search rules)

pub returns : goal.returns
returns c = rows-ended c.args.table.now c.loop-i.i c.args.n c.loop-i.rows (table_rows c.args.table.now 0 c.args.n) (search rules) (search rules) c.loop-i.invariant.1
