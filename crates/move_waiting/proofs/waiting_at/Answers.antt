use Rattle.move_waiting.proofs.WaitLaws.{wait-laws, no-waits}
use borrow.Author.Rules.{rules}
use Rattle.std.proofs.lemmas.Bool.{not_from_true}
use Rattle.move_waiting.proofs.waiting_at.Goals as goal

pub returns-then-not-has_row : goal.returns-then-not-has_row
returns-then-not-has_row c = search (wait-laws, rules) depth 12

pub returns-in_default : goal.returns-in_default
returns-in_default c = search (wait-laws, rules) depth 12

pub returns-in_default-row_progress : goal.returns-in_default-row_progress
returns-in_default-row_progress c =
    no-waits c.args.file.now c.args.state.now c.args.slot c.args.b c.args.q c.args.r c.has_row.ensures (not_from_true _ c.if-not-has_row.false) c.output_of.ensures
    c.in-SolicitResponse.is c.row_progress.result c.row_progress.ensures c.in_default-row_progress.not-Waits

pub returns-then-not-permits : goal.returns-then-not-permits
returns-then-not-permits c = search (wait-laws, rules) depth 12

pub returns : goal.returns
returns c = search (wait-laws, rules) depth 12
