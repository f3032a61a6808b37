use Rattle.move_delivery.proofs.Delivering.{store-laws, room}
use native.Mathlib.Omega.{arith}
use borrow.Author.Rules.{rules}
use Rattle.move_delivery.proofs.store.Goals as goal

pub push-requires : goal.push-requires
push-requires c =
    let r = room c.args.i c.args.message.now c.requires.1 c.in-Queued.is in
    (omega (arith, c.requires.0, r.0), r.1, omega arith, r.2)

pub store_start-requires : goal.store_start-requires
store_start-requires c =
    let r = room c.args.i c.args.message.now c.requires.1 c.in-Starts.is in
    (omega (arith, c.requires.0, r.0), r.3, omega (arith, c.requires.2, r.3), r.1, r.2)

pub returns-in-Queued : goal.returns-in-Queued
returns-in-Queued c = search (store-laws, rules) depth 12

pub returns-in-Starts : goal.returns-in-Starts
returns-in-Starts c = search (store-laws, rules) depth 12
