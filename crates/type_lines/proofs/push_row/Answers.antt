use Rattle.std.specs.Prelude.{◌≡◌}
use borrow.Author.Rules.{rules}
use Rattle.basics.specs.Choice.{pick}
use Rattle.type_lines.proofs.Emitting.{row_wrote}
use Rattle.type_lines.proofs.push_row.Goals as goal

pub returns : goal.returns
returns c =
    let m : c.from.result ≡ pick c.args.m 1 0 = search rules in
    row_wrote c.args.id c.args.m c.args.next c.args.n c.push_id-x.ensures m c.push-y.ensures
    c.push-z.ensures c.first_of.ensures c.push_id-u.ensures c.push_id.ensures
