use Rattle.move_delivery.proofs.Delivering.{allowed-laws}
use borrow.Author.Rules.{rules}
use Rattle.move_delivery.proofs.allowed.Goals as goal

pub returns-in-NoTarget : goal.returns-in-NoTarget
returns-in-NoTarget c = search (allowed-laws, rules) depth 12

pub returns-in-QueueFull : goal.returns-in-QueueFull
returns-in-QueueFull c = search (allowed-laws, rules) depth 12

pub returns-in-Queued : goal.returns-in-Queued
returns-in-Queued c = search (allowed-laws, rules) depth 12

pub returns-in-Starts : goal.returns-in-Starts
returns-in-Starts c = search (allowed-laws, rules) depth 12
