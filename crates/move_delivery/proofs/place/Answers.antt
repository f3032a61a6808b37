use Rattle.move_delivery.proofs.Delivering.{place-laws}
use borrow.Author.Rules.{rules}
use Rattle.move_delivery.proofs.place.Goals as goal

pub returns-then-q-gt3 : goal.returns-then-q-gt3
returns-then-q-gt3 c = search (place-laws, rules) depth 12

pub returns-then-n-gt3 : goal.returns-then-n-gt3
returns-then-n-gt3 c = search (place-laws, rules) depth 12

pub returns-in-NoTarget : goal.returns-in-NoTarget
returns-in-NoTarget c = search (place-laws, rules) depth 12

pub returns-in-QueueFull : goal.returns-in-QueueFull
returns-in-QueueFull c = search (place-laws, rules) depth 12

pub returns-in-Queued : goal.returns-in-Queued
returns-in-Queued c = search (place-laws, rules) depth 12

pub returns-in-Starts : goal.returns-in-Starts
returns-in-Starts c = search (place-laws, rules) depth 12
