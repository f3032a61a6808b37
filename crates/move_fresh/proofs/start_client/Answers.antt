use Rattle.move_fresh.proofs.Starting.{client-none, client-new}
use borrow.Author.Rules.{rules}
use Rattle.move_fresh.proofs.start_client.Goals as goal

pub returns-then-client_row : goal.returns-then-client_row
returns-then-client_row c = search (client-none, client-new, rules) depth 12

pub returns : goal.returns
returns c = search (client-none, client-new, rules) depth 12
