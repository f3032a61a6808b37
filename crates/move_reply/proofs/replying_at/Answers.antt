use Rattle.move_reply.proofs.RowLaws.{replying-laws, row-replies}
use borrow.Author.Rules.{rules}
use Rattle.std.proofs.lemmas.Bool.{not_from_true}
use Rattle.move_reply.proofs.replying_at.Goals as goal

pub returns-then-not-has_row : goal.returns-then-not-has_row
returns-then-not-has_row c = search (replying-laws, rules) depth 12

pub returns-in_default : goal.returns-in_default
returns-in_default c = search (replying-laws, rules) depth 12

pub returns-then-not-is_done : goal.returns-then-not-is_done
returns-then-not-is_done c = search (replying-laws, rules) depth 12

pub returns-then-not-permits : goal.returns-then-not-permits
returns-then-not-permits c = search (replying-laws, rules) depth 12

pub returns : goal.returns
returns c = row-replies c.args.file.now c.args.state.now c.args.slot c.args.b c.args.q c.args.r c.has_row.ensures (not_from_true _ c.if-not-has_row.false) c.input_of.ensures c.in-RequestResponse.is c.is_done.ensures (not_from_true _ c.if-not-is_done.false) c.permits.ensures (not_from_true _ c.if-not-permits.false)
