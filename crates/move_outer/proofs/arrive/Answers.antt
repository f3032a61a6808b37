use Rattle.move_outer.proofs.Outer.{arrive-laws}
use Rattle.move_delivery.specs.DeliveryLaws.{admitted-storable}
use borrow.Author.Rules.{rules}
use Rattle.move_outer.proofs.arrive.Goals as goal

pub store-requires : goal.store-requires
store-requires c = (c.requires, admitted-storable c.args.i c.args.bytes.now c.admit.ensures.storable c.in-Ok.is, search rules)

pub returns-in-Err : goal.returns-in-Err
returns-in-Err c = search (arrive-laws, rules) depth 12

pub returns-in-Ok : goal.returns-in-Ok
returns-in-Ok c = search (arrive-laws, rules) depth 12
