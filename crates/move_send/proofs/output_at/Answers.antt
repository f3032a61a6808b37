use Rattle.move_send.proofs.RowLaws.{output-laws}
use borrow.Author.Rules.{rules}
use Rattle.move_send.proofs.output_at.Goals as goal

pub returns-in-Notification : goal.returns-in-Notification
returns-in-Notification c = search (output-laws, rules) depth 12

pub returns-in-SolicitResponse : goal.returns-in-SolicitResponse
returns-in-SolicitResponse c = search (output-laws, rules) depth 12

pub returns-in-Nothing : goal.returns-in-Nothing
returns-in-Nothing c = search (output-laws, rules) depth 12
