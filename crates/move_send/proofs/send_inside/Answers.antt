use native.Mathlib.Omega.{arith}
use mathlib.Core.Path.{refl}
use Rattle.basics.specs.ListLaws.{prefix-length}
use Rattle.state_progress.specs.Meaning.{meaning}
use Rattle.state_destinations.specs.Meaning.{reply_of}
use Rattle.move_delivery.specs.DeliveryLaws.{admitted-storable}
use Rattle.move_send.proofs.MakingLaws.{put-length, inside-not, inside-sent}
use borrow.Author.Rules.{rules}
use Rattle.move_send.proofs.send_inside.Goals as goal

pub slice_bounds-admit-end-2 : goal.slice_bounds-admit-end-2
slice_bounds-admit-end-2 c = prefix-length c.write_message-w.new.out _ (omega (arith, c.message_length-n.ensures, c.write_message-w.ensures.inside))

pub slice_bounds-store-end : goal.slice_bounds-store-end
slice_bounds-store-end c = prefix-length c.write_message-w.new.out _ (omega (arith, c.message_length-n.ensures, c.write_message-w.ensures.inside))

pub store-requires : goal.store-requires
store-requires c = (
  put-length c.args.state.now c.args.slot c.args.i (meaning c.args.after) c.requires.0 c.requires.1 c.requires.2 c.put_row.ensures,
  admitted-storable c.args.k _ c.admit.ensures.storable c.in-Ok.is,
  search rules,
)

pub returns-in-Err : goal.returns-in-Err
returns-in-Err c =
    inside-not c.args.file.now c.args.state.now c.args.slot c.args.i c.args.k c.args.e c.args.to (meaning c.args.after) (reply_of c.args.back) c.write_message-w.ensures
    c.message_length-n.ensures c.message_verdict-own.ensures refl c.admit.ensures c.in-Err.is c.refused.ensures

pub returns-in-Ok : goal.returns-in-Ok
returns-in-Ok c =
    inside-sent c.args.file.now c.args.state.now c.args.slot c.args.i c.args.k c.args.e c.args.to (meaning c.args.after) (reply_of c.args.back) c.write_message-w.ensures
    c.message_length-n.ensures c.message_verdict-own.ensures refl c.admit.ensures c.in-Ok.is c.requires.2 c.put_row.ensures c.store.ensures
    c.done.ensures
