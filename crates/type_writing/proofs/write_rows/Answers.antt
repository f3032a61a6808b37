use Rattle.type_writing.specs.TextPassLaws.{rows_written, rows-unwritten}
use borrow.Author.Rules.{rules}
use Rattle.type_writing.proofs.write_rows.Goals as goal

pub returns-then-m-gt65534 : goal.returns-then-m-gt65534
returns-then-m-gt65534 c =
    rows-unwritten c.args.text.now c.args.table.now c.args.n c.gather-m.new.names c.gather-m.result c.args.out.now c.gather-m.ensures
    c.if-m-gt65534.true

pub returns : goal.returns
returns c =
    rows_written c.args.text.now c.args.table.now c.args.n c.gather-m.new.names c.gather-m.result c.args.out.now _ _ c.write_rest.ensures
    c.gather-m.ensures (search rules)
